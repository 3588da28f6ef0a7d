pub mod LossWalks
pub mod ReadColumns
pub mod ReadGroups
pub mod Unfit
pub mod WritingSoFar
