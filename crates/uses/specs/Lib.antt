-- What the contracts of this crate cite, and the laws of its types.
pub mod FolderLaws
pub mod Folders
