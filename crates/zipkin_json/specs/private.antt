pub mod Tags
pub mod Writing
