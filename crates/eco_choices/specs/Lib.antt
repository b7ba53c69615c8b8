pub mod Choices
pub mod Turned
pub mod Located
pub mod Without
