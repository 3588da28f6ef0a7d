pub mod Halting
pub mod StackWalks
pub mod StandingFields
pub mod WrittenParts
