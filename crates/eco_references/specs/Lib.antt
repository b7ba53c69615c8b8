pub mod References
pub mod Together
pub mod Bases
