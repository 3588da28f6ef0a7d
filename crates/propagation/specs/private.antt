pub mod FoundHeaders
pub mod HeadSteps
pub mod HeaderLines
pub mod Trimming
