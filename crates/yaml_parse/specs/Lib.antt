-- What contracts of this crate, and of those above it, cite.
pub mod BehindDocuments
pub mod Faults
pub mod Frames
pub mod Handed
pub mod Kept
pub mod Marks
pub mod Places
pub mod PlainReading
pub mod PlainText
pub mod Shown
pub mod Sources
