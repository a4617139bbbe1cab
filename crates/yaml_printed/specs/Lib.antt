pub mod Examples
pub mod Nestings
pub mod Printable
pub mod Simple
pub mod WholeTags
pub mod WrittenRoots
