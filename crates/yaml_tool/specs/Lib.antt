-- What contracts of this crate cite.
pub mod Answers
pub mod Asked
pub mod Characters
pub mod Complaints
pub mod ToldEvents
