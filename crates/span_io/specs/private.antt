pub mod Gathering
pub mod RowSteps
