pub mod InputLaws
pub mod PenTargets
pub mod States
pub mod TargetSteps
pub mod WalkSteps
