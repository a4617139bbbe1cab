-- What contracts of this crate, and of those above it, cite.
pub mod MergeKeys
pub mod MergedTree
pub mod Names
pub mod Remade
pub mod Treated
pub mod Writing
