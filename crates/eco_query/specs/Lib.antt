pub mod Ports
pub mod Problem
pub mod Pairing
pub mod Candidates
