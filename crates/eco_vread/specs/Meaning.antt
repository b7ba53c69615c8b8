-- What a file declares.
use Rattle.std.specs.Prelude.{ℕ, ◌+◌, ◌-◌, ◌≡◌, Bool, true, false, ◌&&◌, ◌||◌, not, ◌==◌, List, [], ◌∷◌, ◌++◌, map, Option, Some, None, codes, if◌then◌else◌, All}
use Rattle.std.specs.List.{flat_map, filter}
use Rattle.eco_meaning.specs.declared.kind.Kind.{Kind}
use Rattle.eco_meaning.specs.declared.name.Operand.{Operand}
use Rattle.eco_meaning.specs.declared.name.Operand.TheVariants.{Zero, One, Named}
use Rattle.eco_meaning.specs.Circuit.{Circuit, NamedGate, Values, value_of, IsConsistent}
use Rattle.eco_netlist.specs.Draft.{Declared}
use Rattle.eco_meaning.specs.declared.kind.Kind.TheVariants.{And, Or, Xor, Xnor, Buf, Not}
use Rattle.eco_text.specs.Prefix.{fresh_prefix_of, numbered}
use Rattle.eco_tokens.specs.Said.{Said, is_name_kind, name_text}
use Rattle.eco_vread.specs.declared.tree.Direction.{Direction}
use Rattle.eco_vread.specs.declared.tree.Direction.TheVariants.{In, Out}
use Rattle.eco_vread.specs.declared.tree.Operator.{Operator}
use Rattle.eco_vread.specs.declared.tree.Operator.TheVariants.{Ampersand, Caret, TildeCaret, CaretTilde, Bar}
use Rattle.eco_vread.specs.Syntax.{Term, Instance, Expression, Assignment, Statement, Port, File, name_of}
use Rattle.eco_vread.specs.Syntax.Term.{low, high, net}
use Rattle.eco_vread.specs.Syntax.Expression.{term, inverse, binary, bracketed}
use Rattle.eco_vread.specs.Syntax.Statement.{input, output, wire, gates, assign}
use Rattle.eco_vread.specs.Grammar.{spelling, is_directed}

-- what a gate's input reads
abbrev pub operand_of : Term → Operand
operand_of low = Zero
operand_of high = One
operand_of (net i) = Named (name_of i)

-- one gate for each output of an instance, in order, each with the same inputs; the instance's own name is dropped
abbrev pub instance_gates : Kind → Instance → List NamedGate
instance_gates kind i =
    map (λ out. record { kind = kind; out = name_of out; terms = map operand_of i.inputs }) i.outputs

-- the gate that stands for an operator
abbrev pub operator_kind : Operator → Kind
operator_kind Ampersand = And
operator_kind Caret = Xor
operator_kind TildeCaret = Xnor
operator_kind CaretTilde = Xnor
operator_kind Bar = Or

-- how many operators an expression has, `~` among them
abbrev pub operators : Expression → ℕ
operators (term t) = 0
operators (inverse e) = operators e + 1
operators (binary op a b) = operators a + operators b + 1
operators (bracketed e) = operators e

-- What gives an expression's value, where `before` operators come before those of the expression and the gate of the
-- operator of a number drives the net that `driven` has for it: the gate of the last operator, or the only term.
abbrev pub source : (ℕ → List ℕ) → ℕ → Expression → Operand
source driven before (term t) = operand_of t
source driven before (inverse e) = Named (driven (before + operators (inverse e)))
source driven before (binary op a b) = Named (driven (before + operators (binary op a b)))
source driven before (bracketed e) = source driven before e

-- a gate for each operator, behind those of its operands, the left operand's first
abbrev pub expression_gates : (ℕ → List ℕ) → ℕ → Expression → List NamedGate
expression_gates driven before (term t) = []
expression_gates driven before (inverse e) =
    expression_gates driven before e
    ++ record { kind = Not; out = driven (before + operators (inverse e)); terms = source driven before e ∷ [] } ∷ []
expression_gates driven before (binary op a b) =
    expression_gates driven before a
    ++ (expression_gates driven (before + operators a) b
    ++ record {
      kind = operator_kind op;
      out = driven (before + operators (binary op a b));
      terms = source driven before a ∷ source driven (before + operators a) b ∷ [];
    } ∷ [])
expression_gates driven before (bracketed e) = expression_gates driven before e

-- the last operator's gate drives the assigned net, the others nets of their own, which are numbered
abbrev pub output_of : List ℕ → List ℕ → ℕ → ℕ → List ℕ
output_of prefix name last number = if number == last then name else numbered prefix number

-- the gates of an assignment, before which so many nets are numbered; without an operator it is a `buf` of the term
abbrev pub assignment_gates : List ℕ → ℕ → Assignment → List NamedGate
assignment_gates prefix before a =
    if operators a.value == 0
    then record { kind = Buf; out = name_of a.name; terms = source (numbered prefix) before a.value ∷ [] } ∷ []
    else expression_gates (output_of prefix (name_of a.name) (before + operators a.value)) before a.value

-- how many nets of its own an assignment has: one for each operator but the last
abbrev pub own_nets : Assignment → ℕ
own_nets a = operators a.value - 1

abbrev pub assignments_gates : List ℕ → ℕ → List Assignment → List NamedGate
assignments_gates prefix before [] = []
assignments_gates prefix before (a ∷ list) =
    assignment_gates prefix before a ++ assignments_gates prefix (before + own_nets a) list

abbrev pub all_own_nets : List Assignment → ℕ
all_own_nets [] = 0
all_own_nets (a ∷ list) = own_nets a + all_own_nets list

-- the names in the header
abbrev pub header_names : Option (List Port) → List (List ℕ)
header_names None = []
header_names (Some ports) = map (λ p. name_of p.name) ports

-- a port has the direction before its name, or else that of the port before it
abbrev pub direction_from : Direction → Option (Direction × Bool) → Direction
direction_from before None = before
direction_from before (Some (direction, also)) = direction

abbrev pub is_in : Direction → Bool
is_in In = true
is_in Out = false

abbrev pub is_out : Direction → Bool
is_out In = false
is_out Out = true

-- the ports that have the direction, behind a port of the direction `before`
abbrev pub ports_that : (Direction → Bool) → Direction → List Port → List (List ℕ)
ports_that wanted before [] = []
ports_that wanted before (p ∷ ports) =
    (if wanted (direction_from before p.direction) then name_of p.name ∷ [] else [])
    ++ ports_that wanted (direction_from before p.direction) ports

-- a header has directions where its first port has one
abbrev pub has_directions : List Port → Bool
has_directions [] = false
has_directions (first ∷ ports) = is_directed first.direction

-- what a header declares: nothing where it has no directions
abbrev pub header_that : (Direction → Bool) → Option (List Port) → List (List ℕ)
header_that wanted None = []
header_that wanted (Some ports) = if has_directions ports then ports_that wanted In ports else []

-- the names that a statement declares as inputs, as outputs and as wires, and its gates; the `wire` of
-- `input wire` and `output wire` adds nothing
abbrev pub declared_inputs : Statement → List (List ℕ)
declared_inputs (input also names) = map name_of names
declared_inputs (output also names) = []
declared_inputs (wire names) = []
declared_inputs (gates kind instances) = []
declared_inputs (assign list) = []

abbrev pub declared_outputs : Statement → List (List ℕ)
declared_outputs (input also names) = []
declared_outputs (output also names) = map name_of names
declared_outputs (wire names) = []
declared_outputs (gates kind instances) = []
declared_outputs (assign list) = []

abbrev pub declared_wires : Statement → List (List ℕ)
declared_wires (input also names) = []
declared_wires (output also names) = []
declared_wires (wire names) = map name_of names
declared_wires (gates kind instances) = []
declared_wires (assign list) = []

abbrev pub declared_gates : List ℕ → ℕ → Statement → List NamedGate
declared_gates prefix before (input also names) = []
declared_gates prefix before (output also names) = []
declared_gates prefix before (wire names) = []
declared_gates prefix before (gates kind instances) = flat_map (instance_gates kind) instances
declared_gates prefix before (assign list) = assignments_gates prefix before list

-- how many nets a statement's assignments number
abbrev pub numbered_nets : Statement → ℕ
numbered_nets (input also names) = 0
numbered_nets (output also names) = 0
numbered_nets (wire names) = 0
numbered_nets (gates kind instances) = 0
numbered_nets (assign list) = all_own_nets list

abbrev pub statements_gates : List ℕ → ℕ → List Statement → List NamedGate
statements_gates prefix before [] = []
statements_gates prefix before (s ∷ statements) =
    declared_gates prefix before s ++ statements_gates prefix (before + numbered_nets s) statements

-- the names that stand in a text of these tokens
abbrev pub names_said : List Said → List (List ℕ)
names_said tokens = map name_text (filter (λ t. is_name_kind t.kind) tokens)

-- what the names of the nets begin with that assignments number: the shortest of `asg_`, `asg__` and so on with which
-- no name of the file begins
abbrev pub own_prefix : File → List ℕ
own_prefix f = fresh_prefix_of (codes "asg") (names_said (spelling f))

-- the declarations of a file, each list in the order of the text, those of the header first
abbrev pub declared_of : File → Declared
declared_of f = record {
  title = name_of f.title;
  header = header_names f.header;
  inputs = header_that is_in f.header ++ flat_map declared_inputs f.statements;
  outputs = header_that is_out f.header ++ flat_map declared_outputs f.statements;
  wires = flat_map declared_wires f.statements;
  gates = statements_gates (own_prefix f) 0 f.statements;
}

-- one of two bits is 1, and not both
abbrev pub is_unlike : Bool → Bool → Bool
is_unlike a b = if a then not b else b

-- the value of an operator (IEEE 1364-2005, 5.1.10)
abbrev pub operator_value : Operator → Bool → Bool → Bool
operator_value Ampersand a b = a && b
operator_value Caret a b = is_unlike a b
operator_value TildeCaret a b = not (is_unlike a b)
operator_value CaretTilde a b = not (is_unlike a b)
operator_value Bar a b = a || b

-- the value of an expression where nets have these values
abbrev pub expression_value : Values → Expression → Bool
expression_value v (term t) = value_of v (operand_of t)
expression_value v (inverse e) = not (expression_value v e)
expression_value v (binary op a b) = operator_value op (expression_value v a) (expression_value v b)
expression_value v (bracketed e) = expression_value v e

abbrev pub assignments_of : Statement → List Assignment
assignments_of (input also names) = []
assignments_of (output also names) = []
assignments_of (wire names) = []
assignments_of (gates kind instances) = []
assignments_of (assign list) = list

-- wherever the gates' outputs have their values, each assigned net has its expression's value
abbrev pub AssignmentsHold : File → Circuit → Type 0
AssignmentsHold f n =
    (v : Values) → IsConsistent n v
    → All (λ a. v (name_of a.name) ≡ expression_value v a.value) (flat_map assignments_of f.statements)
