-- Lemmas of this crate.
pub mod NumberLaws
pub mod FirstLaws
pub mod DistinctLaws
mod Pigeons
pub mod WalkLaws
pub mod StepLaws
pub mod Ranks
pub mod DataLaws
pub mod HeldLaws
pub mod RaiseLaws
pub mod JoinLaws
pub mod JoinWalks
pub mod JoinCode
pub mod PartLaws
pub mod JoinData
pub mod Stands
pub mod RowShapes
pub mod EqualDataLaws
pub mod ShortNames
