-- What proofs of this crate share.
pub mod Asked
pub mod Changes
pub mod Copies
pub mod EqualHashes
pub mod Equals
pub mod Equivalence
pub mod Floats
pub mod Hashes
pub mod Indexed
pub mod Merges
pub mod Paths
pub mod Texts
pub mod Views
