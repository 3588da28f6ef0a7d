pub mod DoorLaws
pub mod MarkLemmas
pub mod ServeLemmas
pub mod StreamLemmas
pub mod WholeLemmas
