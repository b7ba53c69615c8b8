pub mod Moves
pub mod Questions
pub mod Comparing
pub mod Judged
pub mod Laws
pub mod Ranking
pub mod Covers
pub mod Chosen
