pub mod Agreement
pub mod Canonical
pub mod Counted
pub mod Members
pub mod Parts
pub mod Texts
pub mod Writing
pub mod private
