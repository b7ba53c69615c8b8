-- What the clauses of one side, and of two, say.
use Rattle.std.specs.Prelude.{◌≡◌, ◌≢◌, ℕ, Bool, true, false, List, ◌++◌, length, map, AllPairs, Contains}
use Rattle.eco_aig.specs.declared.edge.Edge.{Edge}
use Rattle.eco_aig.specs.declared.node.Node.{Node}
use Rattle.eco_aig.specs.Edges.{bits_of}
use Rattle.eco_trace.specs.declared.clause.Lit.{Lit}
use Rattle.eco_trace.specs.declared.clause.Var.{Var}
use Rattle.eco_trace.specs.Clauses.{Valuation, Satisfies, read}
use Rattle.eco_trace.specs.Split.{Split, IsModelOf, IsShared}
use Rattle.eco_tseitin.specs.Encoding.{Encoding, IsEncoding, literal_of}
use Rattle.eco_tseitin.specs.declared.sides.OneSide.{OneSide}
use Rattle.eco_tseitin.specs.declared.sides.TwoSides.{TwoSides}
use Rattle.eco_tseitin.specs.declared.sides.EncodedSide.{EncodedSide}
use Rattle.eco_tseitin.specs.Encoded.{IsEncoded}
use Rattle.eco_tseitin.specs.Reading.{Makes, read_vars}

-- one side's clauses are those of an encoder that had the inputs and the asserted edges to encode, and asserted the
-- latter; its readers are the inputs' literals
pub record IsOneSide (graph : List Node) (inputs asserted : List Edge) (made : OneSide) : Type 0 where
  pub side : Encoding
  pub encoding : IsEncoding graph (inputs ++ asserted) (map (literal_of side.nodes) asserted) side
  pub cnf : made.cnf ≡ record { vars = length side.nodes; clauses = side.clauses }
  pub readers : made.inputs.items ≡ map (literal_of side.nodes) inputs

-- the literals are read as the inputs' bits, and the shared variables as those of the base edges
pub record ReadsAs (inputs base : List Edge) (w : ℕ → Bool) (shared : List Var) (lits : List Lit) (v : Valuation) : Type 0 where
  pub inputs_read : read v lits ≡ bits_of w inputs
  pub base_read : read_vars v shared ≡ bits_of w base

-- one of two parts of clauses: each model of it reads as a valuation at which the asserted edges are 1, and each such
-- valuation is read from a model of it
pub record IsPart (graph : List Node) (inputs base asserted : List Edge) (split : Split) (part : Bool) (shared : List Var) (lits : List Lit) : Type 0 where
  pub models : (v : Valuation) → IsModelOf split part v → (w : ℕ → Bool) × Makes graph asserted w × ReadsAs inputs base w shared lits v
  pub answers : (w : ℕ → Bool) → Makes graph asserted w → (v : Valuation) × IsModelOf split part v × ReadsAs inputs base w shared lits v

-- the clauses in two parts: the first side's (`true`), and the second's
abbrev pub split_of : TwoSides → Split
split_of sides = record { clauses = sides.cnf.clauses; marks = sides.side.items }

-- a variable that occurs in both parts is one of the shared ones
abbrev pub IsApart : Split → List Var → Type 0
IsApart split shared = (x : Var) → IsShared split x → Contains shared x

-- two valuations, of a graph each, at the first of which the one side's edges are 1, at the second the other's; they agree at
-- the base
pub record MakeBoth (graph other_graph : List Node) (base other_base first second : List Edge) (w u : ℕ → Bool) : Type 0 where
  pub on_first : Makes graph first w
  pub on_second : Makes other_graph second u
  pub same_base : bits_of w base ≡ bits_of u other_base

-- the model is read as these two valuations
pub record ReadsBoth (inputs other_inputs base other_base : List Edge) (w u : ℕ → Bool) (sides : TwoSides) (v : Valuation) : Type 0 where
  pub one : ReadsAs inputs base w sides.shared.items sides.one.items v
  pub other : ReadsAs other_inputs other_base u sides.shared.items sides.other.items v

-- each model of all clauses is read as two inputs, one for each side, that agree at the base
abbrev pub HaveBothInputs : EncodedSide → EncodedSide → TwoSides → Type 0
HaveBothInputs one other sides =
    (graph other_graph : List Node) (inputs other_inputs base other_base first second : List Edge) →
    IsEncoded graph inputs base first one → IsEncoded other_graph other_inputs other_base second other →
    (v : Valuation) → Satisfies v sides.cnf.clauses →
    (w : ℕ → Bool) × (u : ℕ → Bool) × MakeBoth graph other_graph base other_base first second w u × ReadsBoth inputs other_inputs base other_base w u sides v

-- two inputs, one for each side, that agree at the base are read from one model of all clauses
abbrev pub HaveModel : EncodedSide → EncodedSide → TwoSides → Type 0
HaveModel one other sides =
    (graph other_graph : List Node) (inputs other_inputs base other_base first second : List Edge) →
    IsEncoded graph inputs base first one → IsEncoded other_graph other_inputs other_base second other →
    (w u : ℕ → Bool) → MakeBoth graph other_graph base other_base first second w u →
    (v : Valuation) × Satisfies v sides.cnf.clauses × ReadsBoth inputs other_inputs base other_base w u sides v

-- this part of the clauses says what the side says
abbrev pub HasPart : EncodedSide → TwoSides → Bool → List Lit → Type 0
HasPart side sides part lits =
    (graph : List Node) (inputs base asserted : List Edge) → IsEncoded graph inputs base asserted side →
    IsPart graph inputs base asserted (split_of sides) part sides.shared.items lits

-- clauses of two sides: each side is a part of them, their models are read as two inputs that agree at the base, and such inputs
-- from models; a mark tells the part of each clause, and the two parts share a variable for each base edge and no other
pub record AreTwoParts (one other : EncodedSide) (sides : TwoSides) : Type 0 where
  pub one_part : HasPart one sides true sides.one.items
  pub other_part : HasPart other sides false sides.other.items
  pub models : HaveBothInputs one other sides
  pub answers : HaveModel one other sides
  pub apart : IsApart (split_of sides) sides.shared.items
  pub marks : length sides.side.items ≡ length sides.cnf.clauses
  pub count : length sides.shared.items ≡ length one.base.items
  pub distinct : AllPairs (λ x y. x ≢ y) sides.shared.items
