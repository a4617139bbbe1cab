-- What contracts of this crate, and of those above it, cite.
pub mod OfText
pub mod PlainTape
pub mod StandsInText
pub mod inner
