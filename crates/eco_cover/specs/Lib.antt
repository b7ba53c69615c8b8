pub mod Rows
pub mod Classes
pub mod InPlay
