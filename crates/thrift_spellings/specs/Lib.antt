pub mod BinaryReading
pub mod BinarySpelling
pub mod BinaryTypeCodes
pub mod CompactReading
pub mod CompactSpelling
pub mod CompactTypeCodes
