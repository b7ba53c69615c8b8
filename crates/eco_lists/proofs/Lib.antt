pub mod Places
pub mod Members
pub mod Tests
pub mod Names
pub mod Lines
pub mod Ranges
pub mod Values
pub mod Odd
