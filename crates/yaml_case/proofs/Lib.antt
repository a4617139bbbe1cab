-- Lemmas of this crate.
pub mod RunLaws
