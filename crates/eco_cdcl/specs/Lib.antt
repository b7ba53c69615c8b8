pub mod Entries
pub mod Codes
pub mod Pairs
pub mod Watching
pub mod Steps
