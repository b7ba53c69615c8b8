pub mod Between
pub mod Bound
pub mod Parts
pub mod Partial
