-- What contracts of this crate cite.
pub mod DataText
pub mod DataTextView
pub mod Escape
pub mod EventText
pub mod InputFaultText
pub mod SpelledFault
pub mod InputText
pub mod LineText
pub mod Listed
pub mod Parses
pub mod Place
pub mod TreeText
pub mod WrittenLines
