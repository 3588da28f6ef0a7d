mod Examples
pub mod RowLemmas
pub mod RunLemmas
pub mod SpoolLemmas
