pub mod Answers
pub mod Serving
pub mod StatedLaws
pub mod Streams
