pub mod Notes
pub mod Pairs
pub mod Pieces
