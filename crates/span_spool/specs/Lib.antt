pub mod Calls
pub mod Driving
pub mod MemKeepers
pub mod Orders
pub mod Spools
pub mod SqlKeepers
pub mod StatedLaws
