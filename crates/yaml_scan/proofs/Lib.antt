-- Lemmas on which bytes may be a text.
pub mod Characters
