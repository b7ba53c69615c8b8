-- Literals by numbers, and the entries of watch lists.
use Rattle.std.specs.Prelude.{◌≡◌, ◌≢◌, ℕ, ◌+◌, ◌*◌, ◌/◌, ◌%◌, ◌<◌, ◌≤◌, ◌==◌, List, [], slice_get, slice_index_or, length, Some, Contains, if◌then◌else◌}
use Rattle.eco_trace.specs.declared.clause.Lit.{Lit}
use Rattle.eco_trace.specs.declared.node.NodeId.{NodeId}

-- a literal by a number: twice its variable, and one more where it is the variable itself
abbrev pub code_of : Lit → ℕ
code_of l = 2 * l.var.0 + (if l.positive then 1 else 0)

-- the literal of a number
abbrev pub lit_of : ℕ → Lit
lit_of code = record { var = record { 0 = code / 2 }; positive = code % 2 == 1 }

-- a clause that watches a literal, and another literal of it, the blocker
pub record Watch : Type 0 where
  pub node : NodeId
  pub blocker : Lit

-- an entry that holds these two numbers
abbrev pub watch_of : ℕ → ℕ → Watch
watch_of node code = record { node = record { 0 = node }; blocker = lit_of code }

-- the watch list of a literal
abbrev pub list_of : List (List Watch) → Lit → List Watch
list_of lists x = slice_index_or lists (code_of x) []

-- the clause stands in the list
abbrev pub HasEntry : List Watch → ℕ → Type 0
HasEntry list i = (w : Watch) × Contains list w × (w.node.0 ≡ i)

-- of the lists just that of one literal changed, and this is how
pub record IsChanged (old new : List (List Watch)) (x : Lit) (How : List Watch → List Watch → Type 0) : Type 0 where
  pub count : length new ≡ length old
  pub here : How (list_of old x) (list_of new x)
  pub others : (y : Lit) → code_of y ≢ code_of x → list_of new y ≡ list_of old y

-- the entry at a place was taken out: the entries before it stay where they are, those behind it stay from this place
-- on, in some order
pub record IsTakenOut (at : ℕ) (old new : List Watch) : Type 0 where
  pub shorter : length new + 1 ≡ length old
  pub front : (k : ℕ) → k < at → slice_get new k ≡ slice_get old k
  pub behind : (k : ℕ) (w : Watch) → at < k → slice_get old k ≡ Some w → (j : ℕ) × (at ≤ j) × (slice_get new j ≡ Some w)
  pub members : (w : Watch) → Contains new w → Contains old w
