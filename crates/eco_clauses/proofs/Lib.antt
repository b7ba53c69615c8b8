pub mod ClauseLists
pub mod Steps
pub mod Counts
pub mod GateSteps
pub mod Naming
pub mod Bits
pub mod Telling
pub mod Extending
