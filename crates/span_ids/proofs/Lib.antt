pub mod BigEndian
pub mod HexLemmas
