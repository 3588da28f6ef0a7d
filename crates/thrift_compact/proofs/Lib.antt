pub mod Codes
mod Examples
pub mod Heads
pub mod Numbers
pub mod Written
