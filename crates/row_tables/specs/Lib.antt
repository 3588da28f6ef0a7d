pub mod Escapes
pub mod Parts
pub mod Rows
pub mod Words
pub mod private
