pub mod Texts
pub mod Files
pub mod Reading
pub mod Lines
