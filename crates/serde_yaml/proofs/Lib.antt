-- Lemmas of this crate.
pub mod FirstDocument
pub mod KindLaws
pub mod NodeEnds
pub mod MergedLaws
pub mod PrintedLaws
pub mod HeadlineLaws
pub mod TapeLaws
pub mod TextFaults
pub mod ReaderTexts
pub mod TextLaws
pub mod TypedLaws
pub mod WrittenDocuments
