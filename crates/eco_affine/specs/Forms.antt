-- Parities of nodes, and the edges that have them.
use Rattle.std.specs.Prelude.{◌≡◌, ℕ, Bool, false, List, [], ◌∷◌, ◌≤◌, length, All}
use Rattle.eco_aig.specs.declared.edge.Edge.{Edge}
use Rattle.eco_aig.specs.declared.node.Node.{Node}
use Rattle.eco_lists.specs.Bits.{exactly_one}
use Rattle.eco_aig.specs.Edges.{value_of}
use Rattle.eco_aig.specs.Graph.{IsEdge, IsValuation, HasValue}
use Rattle.eco_affine.specs.declared.atoms.Form.{Form}
use Rattle.eco_aig.specs.Swept.{IsSwept}

-- 1 where the nodes of an odd number of these atoms have bit 1
abbrev pub parity : (ℕ → Bool) → List ℕ → Bool
parity w [] = false
parity w (atom ∷ atoms) = exactly_one (w atom) (parity w atoms)

-- the node has bit 1 where just one of the two edges has, under every valuation
pub record IsParityOf (nodes : List Node) (node : ℕ) (a b : Edge) : Type 0 where
  pub first : IsEdge nodes a
  pub second : IsEdge nodes b
  pub value : (w : ℕ → Bool) → IsValuation nodes w → w node ≡ exactly_one (value_of w a) (value_of w b)

-- the edge of the form has the parity of its atoms under every valuation
abbrev pub IsForm : List Node → Form → Type 0
IsForm nodes form = HasValue nodes form.edge (λ w. parity w form.atoms.items)

-- each of them is one
pub record AreForms (nodes : List Node) (forms : List Form) : Type 0 where
  pub each : All (IsForm nodes) forms

-- each of them has at most this many atoms
pub record AreShort (limit : ℕ) (forms : List Form) : Type 0 where
  pub each : All (λ form. length form.atoms.items ≤ limit) forms

-- the edges that stand for nodes, the forms that are kept, and the most atoms that one may have
pub record Known : Type 0 where
  pub map : List Edge
  pub forms : List Form
  pub limit : ℕ

-- what stands for a node has its value, and what is kept is a form of no more atoms than the limit
pub record IsFormed (nodes : List Node) (known : Known) : Type 0 where
  pub swept : IsSwept nodes known.map
  pub forms : AreForms nodes known.forms
  pub short : AreShort known.limit known.forms
