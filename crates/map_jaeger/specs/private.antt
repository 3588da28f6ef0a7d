pub mod Doubles
pub mod Noted
pub mod ReadColumns
pub mod WritingSoFar
