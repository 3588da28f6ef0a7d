pub mod NoteLaws
pub mod NumberLemmas
pub mod PairLemmas
pub mod PieceLemmas
pub mod WordLaws
