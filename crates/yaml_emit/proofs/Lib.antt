-- Lemmas that proofs of this crate share.
pub mod ByItself
pub mod DoubledLaws
pub mod EmitterLaws
pub mod EscapeLaws
pub mod Letters
pub mod LeafLaws
pub mod MildLaws
pub mod RunLaws
pub mod SaidLaws
pub mod StreamLaws
pub mod TreeTexts
