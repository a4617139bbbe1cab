-- Lemmas of this crate.
pub mod BatchLaws
pub mod EndLaws
pub mod NodeStreams
pub mod OneDocument
pub mod ParsedDocuments
pub mod ReadLaws
pub mod SourceLaws
pub mod StageLaws
pub mod StartLaws
pub mod StateLaws
pub mod TextLaws
