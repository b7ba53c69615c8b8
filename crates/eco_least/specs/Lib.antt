pub mod Least
pub mod Telling
pub mod Rows
pub mod Weighed
pub mod Improving
