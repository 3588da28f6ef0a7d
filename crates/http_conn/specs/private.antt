pub mod FoundFields
pub mod SendingSteps
