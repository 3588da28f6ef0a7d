pub mod Gauge
pub mod StatedLaws
pub mod private
