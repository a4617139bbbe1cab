pub mod Ends
pub mod Growing
