-- Lemmas of this crate.
pub mod CutLaws
pub mod EscapeLaws
pub mod EventLaws
pub mod Exits
pub mod FaultLaws
pub mod InputLaws
pub mod LineLaws
pub mod OneInput
pub mod OneReading
pub mod PlaceLaws
pub mod ShowLaws
pub mod WordLaws
