-- What contracts of the crates above cite: what a scalar and what a node mean under a shape.
pub mod AnyData
pub mod CoreTags
pub mod Fields
pub mod Handing
pub mod Kinds
pub mod Meaning
pub mod NodeTags
pub mod Presence
pub mod ReadFault
pub mod ReadingGives
pub mod ScalarAny
pub mod ScalarFound
pub mod ScalarShapes
pub mod ScalarSorts
pub mod Steps
pub mod Variants
