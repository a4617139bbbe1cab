-- What contracts of this crate cite.
pub mod Compared
pub mod Fits
pub mod InTexts
pub mod InTurn
pub mod ReadsBack
pub mod Rendered
pub mod SameOrder
pub mod SimpleData
pub mod Survives
