pub mod BlockReader
pub mod BracketReader
pub mod DocumentReader
pub mod Readers
pub mod Refused
