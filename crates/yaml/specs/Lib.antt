-- What contracts of this crate cite.
pub mod Around
pub mod Collections
pub mod FloatSteps
pub mod Leaves
pub mod NextDocument
pub mod NodeSteps
pub mod OneDocument
pub mod OneNode
pub mod Picks
pub mod PlaceSteps
pub mod Printed
pub mod Steps
pub mod TagSteps
pub mod WrittenDocument
