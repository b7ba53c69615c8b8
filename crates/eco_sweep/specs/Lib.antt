pub mod Parts
pub mod Questions
pub mod Sweepers
pub use Rattle.eco_aig.specs.Edges
pub use Rattle.eco_aig.specs.Graph
