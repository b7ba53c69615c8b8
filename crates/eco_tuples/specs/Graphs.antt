-- Copies of a netlist over one graph of its targets, one copy for each input.
use Rattle.std.specs.Prelude.{◌≡◌, ℕ, Bool, true, List, length, map, All}
use Rattle.std.specs.List.{AllZip}
use Rattle.eco_meaning.specs.Circuit.{Circuit, Values, AreTargets}
use Rattle.eco_meaning.specs.Meaning.{Goal}
use Rattle.eco_aig.specs.declared.edge.Edge.{Edge}
use Rattle.eco_aig.specs.declared.node.Node.{Node}
use Rattle.eco_aig.specs.Edges.{value_of, bits_of}
use Rattle.eco_aig.specs.Graph.{IsGraph, IsEdge, IsValuation, Grows}
use Rattle.eco_aig.specs.Inputs.{AreInputs}
use Rattle.eco_query.specs.Problem.{ProblemValue, HasTargets}
use Rattle.eco_clash.specs.Clashes.{IsAt, IsRightAt}
use Rattle.eco_tuples.specs.declared.target_graph.TargetGraph.{TargetGraph}

-- each of them has a bit for each input of f
abbrev pub AreInputsOf : Circuit → List (List Bool) → Type 0
AreInputsOf f tuple = All (λ x. length x ≡ length f.inputs) tuple

-- the graph's inputs are f's targets
pub record IsTargetGraph (f : Circuit) (targets : TargetGraph) : Type 0 where
  pub graph : IsGraph targets.graph
  pub inputs : AreInputs targets.graph targets.opens.items
  pub count : HasTargets f (length targets.opens.items)

-- the graph has grown, its inputs stay
pub record Stretches (old new : TargetGraph) : Type 0 where
  pub opens : new.opens ≡ old.opens
  pub most : ℕ
  pub grows : Grows old.graph new.graph most

-- the edge is 1 just where f, with the bits of these edges at its targets, is right at the input
pub record TellsRight (f : Circuit) (goal : Goal) (targets : List (List ℕ)) (nodes : List Node) (opens : List Edge) (x : List Bool) (e : Edge) : Type 0 where
  pub within : IsEdge nodes e
  pub right : (w : ℕ → Bool) → IsValuation nodes w → value_of w e ≡ true → IsRightAt f goal targets x (bits_of w opens)
  pub only : (w : ℕ → Bool) → IsValuation nodes w → IsRightAt f goal targets x (bits_of w opens) → value_of w e ≡ true

-- so it is with the implementation of the problem and its targets
abbrev pub IsRightEdge : ProblemValue → TargetGraph → List Bool → Edge → Type 0
IsRightEdge problem graph x e =
    (targets : List (List ℕ)) → AreTargets problem.implementation targets →
    TellsRight problem.implementation problem.goal targets graph.graph graph.opens.items x e

-- there is such an edge for each input
abbrev pub AreRightEdges : ProblemValue → TargetGraph → List (List Bool) → List Edge → Type 0
AreRightEdges problem graph tuple edges =
    (targets : List (List ℕ)) → AreTargets problem.implementation targets →
    AllZip (TellsRight problem.implementation problem.goal targets graph.graph graph.opens.items) tuple edges

-- at the input these nets have the bits of the edges, whatever map with the bits of the graph at the targets gives them
abbrev pub AreValuesAt : Circuit → List (List ℕ) → TargetGraph → List Bool → List Edge → Type 0
AreValuesAt f nets graph x edges =
    (targets : List (List ℕ)) → AreTargets f targets → (w : ℕ → Bool) → IsValuation graph.graph w →
    (v : Values) → IsAt f targets x (bits_of w graph.opens.items) v → map v nets ≡ bits_of w edges
