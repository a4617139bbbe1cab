-- Lemmas of this crate.
pub mod BehindLaws
pub mod CutOff
pub mod DocumentCounts
pub mod FloatLaws
pub mod NameLaws
pub mod OneNode
pub mod ReaderTexts
pub mod StepLaws
pub mod TapeLaws
