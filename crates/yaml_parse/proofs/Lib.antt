-- Lemmas of this crate.
pub mod Fronts
pub mod PlaceLaws
mod PlainTexts
pub mod Streams
pub mod TextLaws
