pub mod Lines
pub mod Files
pub mod Words
pub mod Read
pub mod Gathering
