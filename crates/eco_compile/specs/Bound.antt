-- Edges of nets that are found by their names.
use Rattle.std.specs.Prelude.{◌≡◌, ◌↔◌, ℕ, Bool, true, List, Option, map}
use Rattle.eco_meaning.specs.Circuit.{Circuit, Values, IsConsistent, AgreeOn}
use Rattle.eco_meaning.specs.Meaning.{IsCared}
use Rattle.eco_aig.specs.declared.edge.Edge.{Edge}
use Rattle.eco_aig.specs.declared.node.Node.{Node}
use Rattle.eco_aig.specs.Edges.{value_of, bits_of}
use Rattle.eco_aig.specs.Graph.{IsEdge, IsValuation}
use Rattle.eco_compile.specs.Compiled.{AreEdges, values_of}
use Rattle.eco_compile.specs.Goals.{HasInputs}

-- the table, an edge for each net of f, has the edges `inputs` at f's inputs: where these have the bits of v, so has the table
abbrev pub HasInputEdges : Circuit → List Edge → List Edge → Type 0
HasInputEdges f inputs table = (w : ℕ → Bool) (v : Values) → HasInputs f inputs w v → AgreeOn f.inputs v (values_of f w table)

-- the edges give the nets of n their values, where its inputs have the bits of f's table at the nets of these names
pub record AreNetEdges (f n : Circuit) (table : List Edge) (nodes : List Node) (edges : List Edge) : Type 0 where
  pub consistent : (w : ℕ → Bool) → IsValuation nodes w → IsConsistent n (values_of n w edges)
  pub inputs : (w : ℕ → Bool) → AgreeOn n.inputs (values_of f w table) (values_of n w edges)

-- where f's inputs have the table's bits, the specification gives f's outputs the bits of these edges
pub record AreWanted (f spec : Circuit) (table : List Edge) (nodes : List Node) (outputs : List Edge) : Type 0 where
  pub within : AreEdges nodes outputs
  pub some : (w : ℕ → Bool) → IsValuation nodes w → (v : Values) → AgreeOn f.inputs v (values_of f w table) →
      (u : Values) × IsConsistent spec u × AgreeOn f.inputs v u
  pub outputs_are : (w : ℕ → Bool) → IsValuation nodes w → (v u : Values) → AgreeOn f.inputs v (values_of f w table) →
      IsConsistent spec u → AgreeOn f.inputs v u → map u f.outputs ≡ bits_of w outputs

-- where f's inputs have the table's bits, they are cared exactly where the edge is 1
pub record IsCaredEdge (f : Circuit) (care : Option Circuit) (table : List Edge) (nodes : List Node) (e : Edge) : Type 0 where
  pub within : IsEdge nodes e
  pub is : (w : ℕ → Bool) → IsValuation nodes w → (v : Values) → AgreeOn f.inputs v (values_of f w table) →
      (value_of w e ≡ true) ↔ IsCared care v
