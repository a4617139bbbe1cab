-- Lemmas of this crate.
pub mod FolderSchema
pub mod FolderFound
pub mod FolderShown
pub mod FolderSizes
