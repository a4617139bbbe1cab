-- What contracts of this crate, and of those above it, cite.
pub mod BoxedFault
pub mod Expectations
pub mod VariantView
pub mod inner
