-- What contracts of this crate cite.
pub mod Replies
pub mod Arguments
