pub mod Clashes
pub mod Questions
pub mod Costs
pub mod Together
