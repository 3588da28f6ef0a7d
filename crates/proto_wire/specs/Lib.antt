pub mod StatedLaws
pub mod Messages
pub mod Reading
pub mod Records
pub mod Scanners
pub mod Wire
pub mod private
