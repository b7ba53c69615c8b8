-- The shape of posed clauses, how many literals are read of their models, and how many variables they have.
use Rattle.std.specs.Prelude.{◌≡◌, ℕ, ◌+◌, ◌*◌, ◌≤◌, List, length, Option, Some, None}
use Rattle.std.specs.List.{sum_by}
use Rattle.eco_meaning.specs.Circuit.{Circuit, names, AreTargets}
use Rattle.eco_meaning.specs.Meaning.{Goal}
use Rattle.eco_aig.specs.declared.edge.Edge.{Edge}
use Rattle.eco_aig.specs.declared.node.Node.{Node}
use Rattle.eco_trace.specs.declared.clause.Lit.{Lit}
use Rattle.eco_aig.specs.Inputs.{AreInputs}
use Rattle.eco_tseitin.specs.declared.sides.OneSide.{OneSide}
use Rattle.eco_tseitin.specs.declared.sides.TwoSides.{TwoSides}
use Rattle.eco_tseitin.specs.declared.sides.EncodedSide.{EncodedSide}
use Rattle.eco_tseitin.specs.Sides.{IsOneSide}
use Rattle.eco_tseitin.specs.Encoded.{IsEncoded}
use Rattle.eco_tseitin.specs.Joined.{IsJoined}
use Rattle.eco_pose.specs.declared.question.Question.{Question}
use Rattle.eco_pose.specs.declared.question.Question.TheVariants.{Rectify, Separate, Fix, Equal}
use Rattle.eco_pose.specs.Posing.{PosedValue}

-- the side is the encoding of a graph that has these inputs alone, in which some edges are asserted
pub record IsOfInputs (side : OneSide) : Type 0 where
  pub graph : List Node
  pub inputs : List Edge
  pub asserted : List Edge
  pub are_inputs : AreInputs graph inputs
  pub encoded : IsOneSide graph inputs asserted side

-- the clauses are those of such a side, and what is read are its inputs
pub record IsEncodedOnce (posed : PosedValue) (lits : List Lit) : Type 0 where
  pub made : OneSide
  pub side : IsOfInputs made
  pub clauses : posed.clauses ≡ made.cnf
  pub reads : lits ≡ made.inputs.items

-- an encoded side over a graph of its own, which has the inputs alone
pub record IsEncodedSide (side : EncodedSide) : Type 0 where
  pub graph : List Node
  pub inputs : List Edge
  pub base : List Edge
  pub asserted : List Edge
  pub are_inputs : AreInputs graph inputs
  pub encoded : IsEncoded graph inputs base asserted side

-- the clauses are those of two sides, each with a graph of its own, joined at the shared variables
pub record IsEncodedTwice (posed : PosedValue) : Type 0 where
  pub first_side : EncodedSide
  pub second_side : EncodedSide
  pub first_encoded : IsEncodedSide first_side
  pub second_encoded : IsEncodedSide second_side
  pub made : TwoSides
  pub joined : IsJoined first_side second_side made
  pub clauses : posed.clauses ≡ made.cnf
  pub marks : posed.side ≡ made.side.items
  pub shared_are : posed.shared ≡ made.shared.items
  pub first_reads : posed.first ≡ made.one.items
  pub second_reads : posed.second ≡ made.other.items

-- the clauses are made of and-inverter graphs in the encoding of Tseitin, and of nothing else
abbrev pub HasShape : Question → PosedValue → Type 0
HasShape (Rectify values) posed = IsEncodedOnce posed posed.first
HasShape (Separate i patches base rest) posed = IsEncodedTwice posed
HasShape (Fix input fixed) posed = IsEncodedOnce posed posed.targets
HasShape (Equal left right care) posed = IsEncodedOnce posed posed.first

-- One literal is read for each input of the netlist that is asked about, f or the left one of two, or for each target of f.
-- By their shape, the graphs of the clauses have no other inputs.
abbrev pub HasReaders : Circuit → Question → PosedValue → Type 0
HasReaders f (Rectify values) posed = length posed.first ≡ length f.inputs
HasReaders f (Separate i patches base rest) posed = (length posed.first ≡ length f.inputs) × (length posed.second ≡ length f.inputs)
HasReaders f (Fix input fixed) posed = (targets : List (List ℕ)) → AreTargets f targets → length posed.targets ≡ length targets
HasReaders f (Equal left right care) posed = length posed.first ≡ length left.inputs

-- the number of a netlist's names and of the inputs of its gates
abbrev pub size_of : Circuit → ℕ
size_of n = length (names n) + sum_by (λ g. length g.terms) n.gates

-- the size of a netlist, where there is one
abbrev pub size_of_some : Option Circuit → ℕ
size_of_some None = 0
size_of_some (Some n) = size_of n

-- one more than the sizes of the problem's netlists together
abbrev pub problem_size : Circuit → Goal → ℕ
problem_size f goal = 1 + size_of f + size_of goal.spec + size_of_some goal.care

-- the question's own netlists
abbrev pub own_size : Question → ℕ
own_size (Rectify values) = 0
own_size (Separate i patches base rest) = size_of patches
own_size (Fix input fixed) = 0
own_size (Equal left right care) = size_of left + size_of right + size_of_some care

-- how many rows the question lists
abbrev pub listed : Question → ℕ
listed (Rectify values) = length values
listed (Separate i patches base rest) = length rest
listed (Fix input fixed) = 0
listed (Equal left right care) = 0

-- at most eight variables for each name and each input of a gate, for each listed row and once more
abbrev pub HasFewVariables : Circuit → Goal → Question → PosedValue → Type 0
HasFewVariables f goal question posed =
    posed.clauses.vars ≤ 8 * (listed question + 1) * (problem_size f goal + own_size question)
