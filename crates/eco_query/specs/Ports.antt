-- How the ports of two netlists differ.
use Rattle.std.specs.Prelude.{◌≡◌, ℕ, Bool, true, false, not, ◌&&◌, ◌||◌, List, Option, Some, None, All, if◌then◌else◌}
use Rattle.std.specs.Cmp.Lexicographic.{slice_cmp}
use Rattle.std.specs.Ordering.{nat_cmp, is_lt}
use Rattle.eco_meaning.specs.Names.{has}
use Rattle.eco_meaning.specs.Circuit.{Circuit}
use Rattle.eco_netlist.specs.Refusals.{IsNoLater}

-- a port of one netlist alone, or an input of one and an output of the other
abbrev pub is_unlike : Circuit → Circuit → List ℕ → Bool
is_unlike left right name =
    (has left.ports name && not (has right.ports name))
    || (has right.ports name && not (has left.ports name))
    || (has left.inputs name && has right.outputs name)
    || (has left.outputs name && has right.inputs name)

-- an input of one netlist alone
abbrev pub is_alone : Circuit → Circuit → List ℕ → Bool
is_alone left right name =
    (has left.inputs name && not (has right.inputs name)) || (has right.inputs name && not (has left.inputs name))

-- the smallest of these names that have the error; None where none of them has it
abbrev pub IsLeastOf : (List ℕ → Bool) → List (List ℕ) → Option (List ℕ) → Type 0
IsLeastOf fault list None = All (λ name. fault name ≡ false) list
IsLeastOf fault list (Some least) =
    (fault least ≡ true) × All (λ other. fault other ≡ true → IsNoLater least other) list

-- the name that comes first in the order of their bytes, where there are two
abbrev pub earlier_of : Option (List ℕ) → Option (List ℕ) → Option (List ℕ)
earlier_of None second = second
earlier_of (Some a) None = Some a
earlier_of (Some a) (Some b) = if is_lt (slice_cmp nat_cmp b a) then Some b else Some a
