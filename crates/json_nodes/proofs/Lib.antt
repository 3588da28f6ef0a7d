mod AskedLemmas
mod BuildingLemmas
mod MemberLemmas
mod NodeLemmas
mod NumberLemmas
mod TokenLemmas
