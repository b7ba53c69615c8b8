pub mod GateValue
pub mod Gates
pub mod Evaluation
pub mod Words
pub mod Ordering
pub mod Reach
pub mod Spread
pub mod Walk
pub mod Step
pub use Rattle.eco_meaning.specs.Gates as KindValues
pub use Rattle.eco_meaning.specs.Circuit
