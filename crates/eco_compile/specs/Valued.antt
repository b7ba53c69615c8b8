-- Edges that have the values of nets.
use Rattle.std.specs.Prelude.{◌≡◌, ℕ, Bool, true, false, ◌||◌, List, [], ◌∷◌, map}
use Rattle.eco_meaning.specs.Circuit.{Circuit, Values, IsConsistent}
use Rattle.eco_aig.specs.declared.edge.Edge.{Edge}
use Rattle.eco_aig.specs.declared.node.Node.{Node}
use Rattle.eco_lists.specs.Bits.{exactly_one}
use Rattle.eco_aig.specs.Edges.{bits_of}
use Rattle.eco_aig.specs.Graph.{IsValuation}
use Rattle.eco_compile.specs.Compiled.{AreEdges}

-- under each valuation of the graph some consistent map of the netlist gives these nets the bits of the edges
pub record AreValued (n : Circuit) (nodes : List Node) (nets : List (List ℕ)) (edges : List Edge) : Type 0 where
  pub within : AreEdges nodes edges
  pub values : (w : ℕ → Bool) → IsValuation nodes w → (v : Values) × IsConsistent n v × (map v nets ≡ bits_of w edges)

-- whether two lists of bits differ at some place, or in their lengths
unfoldable pub differ : List Bool → List Bool → Bool
differ [] [] = false
differ [] (b ∷ bs) = true
differ (a ∷ rest) [] = true
differ (a ∷ rest) (b ∷ bs) = exactly_one a b || differ rest bs
