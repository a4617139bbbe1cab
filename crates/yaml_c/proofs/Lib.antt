-- Lemmas of this crate.
pub mod DocumentLaws
pub mod EachLaws
pub mod RoomLaws
pub mod ShowingLaws
pub mod SortLaws
