pub mod AnswerLemmas
pub mod OneReplyLemmas
