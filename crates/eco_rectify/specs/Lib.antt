pub mod Rectified
pub mod Searched
