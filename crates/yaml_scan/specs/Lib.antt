pub mod AllowedText
pub mod Scanning
pub mod Surrogates
