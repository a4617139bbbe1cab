-- Lemmas of this crate.
pub mod AnswerLaws
pub mod AskedLaws
pub mod CharacterLaws
pub mod ComplaintLaws
pub mod ParsedLaws
pub mod WritingLaws
