pub mod Forms
pub mod Patterns
pub use Rattle.eco_aig.specs.Edges
pub use Rattle.eco_aig.specs.Graph
