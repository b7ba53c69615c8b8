pub mod Judging
pub mod Posing
