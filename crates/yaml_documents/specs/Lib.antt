-- What contracts of this crate, and of those above it, cite.
pub mod FirstDocuments
pub mod HandingOut
pub mod OnlyDocument
pub mod PlainReader
pub mod ReaderFaults
pub mod TextDocuments
pub mod TextEvents
pub mod inner
