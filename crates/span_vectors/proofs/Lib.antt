pub mod Batches
mod Examples
pub mod Faults
pub mod Feeding
pub mod Frames
pub mod Held
pub mod Numbers
pub mod Sizes
pub mod Spans
pub mod TextSizes
pub mod Verdicts
