pub mod Drawn
pub mod Cutting
pub mod Lines
pub mod Instance
pub mod Files
