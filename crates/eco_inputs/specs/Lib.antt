pub mod Rows
pub mod Reading
pub mod Kinds
pub mod Paths
pub mod Texts
pub mod Inputs
pub mod Changes
pub mod Nets
