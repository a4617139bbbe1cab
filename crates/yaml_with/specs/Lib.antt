-- What contracts of this crate cite.
pub mod Asks
pub mod Through
