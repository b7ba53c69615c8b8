-- Each choice of bits for the inputs extends to a valuation of the graph.
pub use Rattle.eco_aig.proofs.Valuations.{valuation_with}
