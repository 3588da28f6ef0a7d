pub mod ArgumentLemmas
pub mod ContentLemmas
pub mod HeaderLemmas
pub mod LineLemmas
pub mod MessageLemmas
pub mod PieceLemmas
pub mod PostLemmas
pub mod RunLemmas
pub mod WordLemmas
mod Examples
