-- Lemmas of this crate.
pub mod Writings
