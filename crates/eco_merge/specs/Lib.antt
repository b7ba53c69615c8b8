pub mod Alike
pub mod Rows
pub mod Signatures
pub mod Images
pub mod Questions
pub mod Marked
pub mod Counting
pub mod Steps
