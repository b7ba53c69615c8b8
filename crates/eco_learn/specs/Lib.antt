pub mod TakenLits
pub mod Trails
pub mod Reasons
pub mod Lessons
pub mod Marks
pub mod Chains
