-- Lemmas of this crate.
pub mod Clean
pub mod FirstLaws
pub mod FrameLaws
pub mod MergedLaws
pub mod NoKeys
pub mod NumberLaws
pub mod PlacesLaws
pub mod RemadeLaws
pub mod TreatedLaws
pub mod WritingLaws
