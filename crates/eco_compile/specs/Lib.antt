pub mod Compiled
pub mod Joins
pub mod Valued
pub mod Goals
pub mod Bound
pub mod Wrong
pub use Rattle.eco_aig.specs.Edges
pub use Rattle.eco_aig.specs.Graph
