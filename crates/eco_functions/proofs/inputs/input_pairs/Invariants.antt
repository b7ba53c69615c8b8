-- The pairs so far.
use Rattle.std.proofs.Common.{◌≡◌, map, take}
use Rattle.eco_aig.specs.Edges.{plain}
use Rattle.eco_aig.specs.Graph.{inputs_of}
use Rattle.eco_functions.proofs.inputs.input_pairs.Given as goal

abbrev pub invariant-loop-place : goal.invariant-loop-place
invariant-loop-place l = record {
  variables : map (λ p. p.0) l.pairs.items ≡ take l.place l.shared;
  edges : map (λ p. p.1) l.pairs.items ≡ map plain (take l.place (inputs_of l.aig));
}
