-- Edges that are 1 where a netlist isn't right.
use Rattle.std.specs.Prelude.{◌≡◌, ℕ, Bool, true, false, ◌&&◌, List, ◌++◌, length, map}
use Rattle.eco_meaning.specs.Circuit.{Circuit, Values, IsConsistent, AgreeOn, AreTargets}
use Rattle.eco_meaning.specs.Meaning.{Goal, IsRight}
use Rattle.eco_netlist.specs.Netlists.{IsChecked}
use Rattle.eco_aig.specs.declared.edge.Edge.{Edge}
use Rattle.eco_aig.specs.declared.node.Node.{Node}
use Rattle.eco_aig.specs.Edges.{value_of, bits_of}
use Rattle.eco_aig.specs.Graph.{IsEdge, IsValuation, HasValue}
use Rattle.eco_compile.specs.Valued.{AreValued, differ}
use Rattle.eco_compile.specs.Goals.{AreGoalEdges}

-- v has the bits of edges at the netlist's inputs and at its open nets
pub record HasBits (n : Circuit) (nets : List (List ℕ)) (inputs opens : List Edge) (w : ℕ → Bool) (v : Values) : Type 0 where
  pub input : map v n.inputs ≡ bits_of w inputs
  pub row : map v nets ≡ bits_of w opens

-- The edge is 1 where the netlist isn't right with these bits of its inputs and of its open nets, and 0 where it is:
-- under each valuation, no map with these bits is right, or some is.
pub record IsWrongEdge (n : Circuit) (goal : Goal) (nets : List (List ℕ)) (nodes : List Node) (inputs opens : List Edge) (e : Edge) : Type 0 where
  pub within : IsEdge nodes e
  pub wrong : (w : ℕ → Bool) → IsValuation nodes w → value_of w e ≡ true →
      (v : Values) → HasBits n nets inputs opens w v → IsRight n goal v → ⊥
  pub right : (w : ℕ → Bool) → IsValuation nodes w → value_of w e ≡ false →
      (v : Values) × HasBits n nets inputs opens w v × IsRight n goal v

-- the edge is 1 where the inputs are cared and the outputs aren't those that the specification gives
abbrev pub IsMiter : List Node → List Edge → List Edge → Edge → Edge → Type 0
IsMiter nodes outputs wanted cared e =
    HasValue nodes e (λ w. value_of w cared && differ (bits_of w outputs) (bits_of w wanted))

-- the inputs and these nets determine the netlist's outputs
abbrev pub IsDeterminedBy : Circuit → List (List ℕ) → Type 0
IsDeterminedBy n nets =
    (v u : Values) → IsConsistent n v → IsConsistent n u → AgreeOn n.inputs v u → AgreeOn nets v u → AgreeOn n.outputs v u

-- the inputs and the targets do
abbrev pub TargetsDetermine : Type 0
TargetsDetermine =
    (n : Circuit) (targets : List (List ℕ)) → IsChecked n → AreTargets n targets → IsDeterminedBy n targets

-- Such an edge tells where a netlist with f's inputs and outputs is right: where its inputs and its open nets have their
-- bits, these determine its outputs.
abbrev pub MitersTell : Type 0
MitersTell =
    (f n : Circuit) (goal : Goal) (nets : List (List ℕ)) (nodes : List Node) (inputs opens outputs wanted : List Edge) (cared e : Edge) →
    n.inputs ≡ f.inputs → n.outputs ≡ f.outputs → IsDeterminedBy n nets →
    AreGoalEdges f goal nodes inputs wanted cared →
    AreValued n nodes (n.inputs ++ nets ++ n.outputs) (inputs ++ opens ++ outputs) →
    length inputs ≡ length n.inputs → length opens ≡ length nets →
    IsMiter nodes outputs wanted cared e → IsWrongEdge n goal nets nodes inputs opens e
