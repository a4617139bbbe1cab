-- What contracts of this crate, and of those above it, cite.
pub mod Documents
pub mod Ends
pub mod Gathering
pub mod MarkedEvents
pub mod Resolved
pub mod StreamLaw
pub mod StreamPhases
pub mod Words
pub mod WrongPlace
pub mod inner
