pub mod Lines
pub mod Bits
