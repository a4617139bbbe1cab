-- Lemmas of this crate.
pub mod BorrowableLaws
pub mod DigitLaws
pub mod FirstLookLaws
pub mod FloatLaws
pub mod IntegerLaws
pub mod KindLaws
pub mod LocalNameLaws
pub mod MantissaLaws
pub mod NumberLaws
pub mod QuotedExamples
pub mod RangeLaws
pub mod SignLaws
pub mod StreamMachineLaws
pub mod WordLaws
