pub mod Lents
pub mod Nodes
pub mod private
