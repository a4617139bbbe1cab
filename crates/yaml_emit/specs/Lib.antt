-- What contracts of this crate cite.
pub mod Characters
pub mod Emitted
pub mod Emitting
pub mod LayoutMachine
pub mod Leaves
pub mod Noted
pub mod Places
pub mod PrintedTexts
pub mod Says
pub mod Scalars
pub mod StreamTexts
pub mod Styles
pub mod Tags
pub mod WriteFaults
