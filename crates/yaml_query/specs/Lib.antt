-- What contracts of this crate cite.
pub mod AtPath
pub mod FaultSteps
pub mod Found
pub mod JsonOf
pub mod JsonText
pub mod NoJson
pub mod Out
pub mod PairFaults
pub mod PathFaults
pub mod PathText
pub mod Reading
pub mod Steps
pub mod StepsText
