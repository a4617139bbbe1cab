pub mod OnDocs
pub mod OnTape
pub mod Pushes
