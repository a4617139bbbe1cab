-- Lemmas of this crate.
pub mod ReadingLaws
pub mod Readings
pub mod RunLaws
pub mod ShapeLaws
pub mod ShownLaws
pub mod StreamWalks
pub mod TurnLaws
