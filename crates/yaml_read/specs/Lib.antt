-- What contracts of this crate, and of those above it, cite.
pub mod CursorReads
pub mod FreeReads
pub mod Following
pub mod NodeReads
pub mod Places
pub mod PlainCursor
pub mod QuickReads
pub mod ReadingFaults
pub mod Reads
pub mod Rows
pub mod TreeReader
pub mod inner
-- What the crate below has of documents, under the names that they have here.
pub use Rattle.yaml_load.specs.Documents
pub use Rattle.yaml_load.specs.Ends
pub use Rattle.yaml_load.specs.Gathering
pub use Rattle.yaml_load.specs.MarkedEvents
pub use Rattle.yaml_load.specs.Resolved
pub use Rattle.yaml_load.specs.StreamLaw
pub use Rattle.yaml_load.specs.StreamPhases
pub use Rattle.yaml_load.specs.WrongPlace
