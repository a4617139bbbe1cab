-- What private contracts cite: batches of events, the documents that are loaded, and the reader between two calls.
pub mod Batches
pub mod Filling
pub mod Pending
pub mod Places
pub mod Sources
pub mod Stages
