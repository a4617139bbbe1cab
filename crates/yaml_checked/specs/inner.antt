-- What private contracts cite.
pub mod EntryNames
pub mod EntryStands
pub mod OnWay
pub mod Parts
