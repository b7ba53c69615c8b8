-- What a graph keeps beside its nodes.
use Rattle.std.specs.Prelude.{◌≡◌}
use Rattle.eco_aig.specs.declared.graph.Aig.TheInside.{Inside}
use Rattle.eco_aig.specs.Graph.{IsGraph, inputs_of}

-- the nodes are a graph's, and the numbers of the inputs are listed
pub record IsKept (inside : Inside) : Type 0 where
  pub graph : IsGraph inside.nodes.keys
  pub inputs : inside.inputs.items ≡ inputs_of inside.nodes.keys
