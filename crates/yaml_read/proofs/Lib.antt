-- Lemmas of this crate.
pub mod AnyCode
pub mod AnyLaws
pub mod FieldCode
pub mod FieldLaws
pub mod FreeLaws
pub mod KindLaws
pub mod QuickLaws
pub mod SlotCode
pub mod Words
pub mod reading
