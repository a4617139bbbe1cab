pub mod InPlace
pub mod Quotes
pub mod Streams
