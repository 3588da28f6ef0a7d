pub mod JobWords
pub mod LineWords
pub mod ReadBlocks
pub mod RunSteps
pub mod ServingSteps
pub mod Words
