-- What contracts of this crate cite.
pub mod Audiences
pub mod EventReadings
pub mod ExitCode
pub mod Printed
pub mod Shapes
pub mod Shown
pub mod TextReadings
pub mod Told
pub mod Turns
