pub mod Given
pub mod HeldLengths
