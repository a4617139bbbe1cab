-- What contracts of this crate cite.
pub mod Comments
pub mod LaidOut
pub mod OwnText
pub mod Said
