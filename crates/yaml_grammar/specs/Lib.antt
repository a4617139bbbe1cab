-- The definition, by families of rules.
pub mod BlockTexts
pub mod Blocks
pub mod Brackets
pub mod Bytes
pub mod Documents
pub mod Examples
pub mod Folding
pub mod Gaps
pub mod Leaves
pub mod Names
pub mod Nodes
pub mod Plain
pub mod PlainLines
pub mod Quotes
pub mod Shown
