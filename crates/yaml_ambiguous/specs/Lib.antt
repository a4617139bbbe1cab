pub mod Ambiguous
pub mod Quoting
