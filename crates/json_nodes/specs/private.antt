pub mod Asked
pub mod Building
pub mod Parts
