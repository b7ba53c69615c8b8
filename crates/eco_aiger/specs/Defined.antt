-- Which variables a file defines and uses.
use Rattle.std.specs.Prelude.{◌≡◌, ℕ, ◌/◌, ◌≤◌, Bool, true, false, not, ◌&&◌, List, [], ◌∷◌, ◌++◌, map, nat_eq, nat_le, count_by, ◌==◌}
use Rattle.std.specs.List.{flat_map, list_any}
use Rattle.eco_aiger.specs.declared.tree.AndLine.{AndLine}
use Rattle.eco_aiger.specs.Syntax.{File}

-- the variable of a literal; that of the constants is 0
abbrev pub variable_of : ℕ → ℕ
variable_of literal = literal / 2

-- the variables of the inputs, then those of the left sides
abbrev pub defined_in : File → List ℕ
defined_in f = map variable_of f.inputs ++ map (λ a. variable_of a.left) f.ands

-- the variables of the outputs, then those of the right sides
abbrev pub right_side : AndLine → List ℕ
right_side a = variable_of a.first ∷ variable_of a.second ∷ []

abbrev pub used_in : File → List ℕ
used_in f = map variable_of f.outputs ++ flat_map right_side f.ands

-- whether a variable stands twice in a list
abbrev pub is_twice : List ℕ → ℕ → Bool
is_twice list variable = nat_le 2 (count_by (nat_eq variable) list)

-- whether a variable is in a list
abbrev pub is_in : List ℕ → ℕ → Bool
is_in list variable = list_any (nat_eq variable) list

-- whether a variable is used, and neither defined nor the constant
abbrev pub is_missing : List ℕ → List ℕ → ℕ → Bool
is_missing defined used variable = not (variable == 0) && is_in used variable && not (is_in defined variable)

-- the least number that passes the test; no number passes it
pub record IsLeast (test : ℕ → Bool) (least : ℕ) : Type 0 where
  pub passes : test least ≡ true
  pub none_less : (other : ℕ) → test other ≡ true → least ≤ other

abbrev pub NeverPasses : (ℕ → Bool) → Type 0
NeverPasses test = (number : ℕ) → test number ≡ false

-- no variable is defined twice; each that is used is defined
abbrev pub IsDefinedOnce : File → Type 0
IsDefinedOnce f = NeverPasses (is_twice (defined_in f))

abbrev pub IsDefined : File → Type 0
IsDefined f = NeverPasses (is_missing (defined_in f) (used_in f))
