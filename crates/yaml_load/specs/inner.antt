-- What private contracts cite: the loader at work.
pub mod AnchorOrder
pub mod Drafts
pub mod Intake
pub mod Loading
pub mod OpenEnds
