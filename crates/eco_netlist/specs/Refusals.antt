-- The errors for which declarations are refused, in their order, and which one is reported.
use Rattle.std.specs.Prelude.{◌≡◌, ◌≢◌, ℕ, Bool, true, false, not, ◌&&◌, ◌||◌, List, ◌∷◌, nat_le, count_by, All, Contains}
use Rattle.std.specs.Cmp.Lexicographic.{slice_cmp}
use Rattle.std.specs.Ordering.{nat_cmp}
use Rattle.std.specs.declared.cmp.Ordering.TheVariants.{Less}
use Rattle.std.specs.List.{IsDistinct}
use Rattle.std.specs.Str.{bytes_eq}
use Rattle.eco_meaning.specs.Names.{has}
use Rattle.eco_meaning.specs.Circuit.{NamedGate, Reads, IsCircle, IsLoopFree}
use Rattle.eco_netlist.specs.declared.draft.FinishError.{FinishError}
use Rattle.eco_netlist.specs.declared.draft.FinishError.TheVariants.{Refused, OutOfMemory}
use Rattle.eco_netlist.specs.declared.draft.TargetRule.{TargetRule}
use Rattle.eco_netlist.specs.declared.refusal.Refusal.{Refusal}
use Rattle.eco_netlist.specs.declared.refusal.Refusal.TheVariants.{DeclaredTwice, PortUndeclared, NotAPort, InputDriven, DrivenTwice, Undriven, Loop}
use Rattle.eco_netlist.specs.Draft.{Declared, is_driven, is_read, is_target, made}

-- whether the name stands at least twice in the list
abbrev pub is_twice : List (List ℕ) → List ℕ → Bool
is_twice list name = nat_le 2 (count_by (bytes_eq name) list)

abbrev pub is_declared_twice : Declared → List ℕ → Bool
is_declared_twice d name =
    is_twice d.header name || is_twice d.inputs name || is_twice d.outputs name
    || (has d.inputs name && has d.outputs name) || is_twice d.wires name

abbrev pub is_undeclared_port : Declared → List ℕ → Bool
is_undeclared_port d name = has d.header name && not (has d.inputs name) && not (has d.outputs name)

abbrev pub is_no_port : Declared → List ℕ → Bool
is_no_port d name = (has d.inputs name || has d.outputs name) && not (has d.header name)

abbrev pub is_driven_input : Declared → List ℕ → Bool
is_driven_input d name = has d.inputs name && is_driven d name

abbrev pub is_driven_twice : Declared → List ℕ → Bool
is_driven_twice d name = nat_le 2 (count_by (λ g. bytes_eq name g.out) d.gates)

abbrev pub is_undriven : TargetRule → Declared → List ℕ → Bool
is_undriven rule d name =
    (has d.outputs name || is_read d name) && not (has d.inputs name) && not (is_driven d name)
    && not (is_target rule d name)

-- the first name is not behind the second one in the order of their bytes
abbrev pub IsNoLater : List ℕ → List ℕ → Type 0
IsNoLater first second = slice_cmp nat_cmp second first ≢ Less

-- the smallest name that has the error; no name has it
abbrev pub IsFirst : (List ℕ → Bool) → List ℕ → Type 0
IsFirst refusal_kind name = (refusal_kind name ≡ true) × ((other : List ℕ) → refusal_kind other ≡ true → IsNoLater name other)

abbrev pub NeverComes : (List ℕ → Bool) → Type 0
NeverComes refusal_kind = (name : List ℕ) → refusal_kind name ≡ false

-- the second name's gate reads the first name
abbrev pub IsReadFor : List NamedGate → List ℕ → List ℕ → Type 0
IsReadFor gates first second = (g : NamedGate) × Contains gates g × (g.out ≡ second) × Reads g first

-- the first name of the list is the smallest
abbrev pub StartsSmallest : List (List ℕ) → Type 0
StartsSmallest loop = (first : List ℕ) (others : List (List ℕ)) → loop ≡ first ∷ others → All (IsNoLater first) others

-- a loop by the names of its gates' outputs, each once, the smallest first: each name's gate reads the name before it
pub record IsNameLoop (gates : List NamedGate) (loop : List (List ℕ)) : Type 0 where
  pub circle : IsCircle (IsReadFor gates) loop
  pub distinct : IsDistinct bytes_eq loop
  pub smallest : StartsSmallest loop

-- no error but perhaps a loop
pub record IsWellDeclared (rule : TargetRule) (d : Declared) : Type 0 where
  pub declared_once : NeverComes (is_declared_twice d)
  pub ports_declared : NeverComes (is_undeclared_port d)
  pub only_ports : NeverComes (is_no_port d)
  pub inputs_free : NeverComes (is_driven_input d)
  pub driven_once : NeverComes (is_driven_twice d)
  pub driven : NeverComes (is_undriven rule d)

-- no error at all
pub record IsWellFormed (rule : TargetRule) (d : Declared) : Type 0 where
  pub declared : IsWellDeclared rule d
  pub loop_free : IsLoopFree (made rule d)

-- the declarations are refused for this: it stands, with the smallest name that has the error, and no error of an
-- earlier row stands
abbrev pub Refuses : TargetRule → Declared → Refusal → Type 0
Refuses rule d (DeclaredTwice name) = IsFirst (is_declared_twice d) name
Refuses rule d (PortUndeclared name) = NeverComes (is_declared_twice d) × IsFirst (is_undeclared_port d) name
Refuses rule d (NotAPort name) =
    NeverComes (is_declared_twice d) × NeverComes (is_undeclared_port d) × IsFirst (is_no_port d) name
Refuses rule d (InputDriven name) =
    NeverComes (is_declared_twice d) × NeverComes (is_undeclared_port d) × NeverComes (is_no_port d)
    × IsFirst (is_driven_input d) name
Refuses rule d (DrivenTwice name) =
    NeverComes (is_declared_twice d) × NeverComes (is_undeclared_port d) × NeverComes (is_no_port d)
    × NeverComes (is_driven_input d) × IsFirst (is_driven_twice d) name
Refuses rule d (Undriven name) =
    NeverComes (is_declared_twice d) × NeverComes (is_undeclared_port d) × NeverComes (is_no_port d)
    × NeverComes (is_driven_input d) × NeverComes (is_driven_twice d) × IsFirst (is_undriven rule d) name
Refuses rule d (Loop loop) = IsWellDeclared rule d × IsNameLoop d.gates loop

-- the declarations end in this error: they are refused for this; want of memory tells nothing of them
abbrev pub EndsIn : TargetRule → Declared → FinishError → Type 0
EndsIn rule d (Refused refusal) = Refuses rule d refusal
EndsIn rule d OutOfMemory = Unit {0}
