pub mod Parities
pub mod Standing
