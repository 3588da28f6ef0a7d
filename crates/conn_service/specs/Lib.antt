pub mod DoorRuns
pub mod Services
pub mod Serving
pub mod Streams
pub mod private
