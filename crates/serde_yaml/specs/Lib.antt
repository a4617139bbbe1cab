-- What contracts of this crate cite.
pub mod Headline
pub mod MergedReads
pub mod OwnEvents
pub mod PlainStream
pub mod Printed
pub mod Quotes
pub mod StreamReads
pub mod StreamView
pub mod TapeReads
pub mod TextReads
pub mod TypedHeadline
pub mod TypedReads
pub mod TypedWrites
pub mod WrittenDocuments
