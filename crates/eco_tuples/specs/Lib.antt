pub mod Graphs
pub mod Rows
pub mod Bounds
pub mod Answers
