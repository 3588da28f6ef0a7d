mod PlaceLemmas
pub mod AgreementLaws
pub mod ChoiceLaws
pub mod CountedLaws
pub mod CountedTexts
pub mod DecisionLaws
pub mod ElementLaws
pub mod MeaningLaws
pub mod MemberLaws
pub mod PartLaws
pub mod ReadBackLaws
pub mod ReadingLaws
pub mod SoundLaws
pub mod TextLaws
pub mod Utf8Laws
pub mod WritingLaws
