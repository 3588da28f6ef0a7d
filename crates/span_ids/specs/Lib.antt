pub mod HexTexts
pub mod Identifiers
pub mod StatedLaws
pub mod Times
pub mod Proper
