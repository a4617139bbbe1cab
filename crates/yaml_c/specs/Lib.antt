-- What contracts of this crate cite.
pub mod FaultTexts
pub mod Links
pub mod Numbers
pub mod Refused
pub mod RowDocuments
pub mod RowEvents
pub mod Rows
pub mod TextRows
pub mod inner
