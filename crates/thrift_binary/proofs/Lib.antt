pub mod Codes
mod Examples
pub mod Fixed
pub mod Heads
pub mod Sizes
