pub mod Scanning
pub mod Rounds
