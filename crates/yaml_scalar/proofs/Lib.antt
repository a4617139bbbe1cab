-- Lemmas of this crate.
pub mod CharacterLaws
pub mod FourDigits
pub mod FoundLaws
pub mod IntegerLaws
pub mod LiftLaws
pub mod OfShape
pub mod SmallNumbers
pub mod TextLaws
pub mod VariantCode
