-- What each patch costs at least whose signals a target of a problem may read.
use Rattle.std.specs.Prelude.{◌≡◌, ℕ, List, [], ◌∷◌, ◌++◌, Option, Some, None, unwrap_or}
use Rattle.eco_meaning.specs.Circuit.{names}
use Rattle.eco_meaning.specs.Cost.{weight_of}
use Rattle.eco_meaning.specs.Patch.{OfTarget}
use Rattle.eco_gates.specs.declared.gate.NetId.{NetId}
use Rattle.eco_netlist.specs.Netlists.{name_at}
use Rattle.eco_query.specs.Problem.{ProblemValue}
use Rattle.eco_clash.specs.Costs.{PatchesCostAtLeast}

-- each patch that makes the implementation do what is asked, and whose signals have weights and lie behind no target but those
-- before the target of this number, costs so much at least
abbrev pub IsTogether : ProblemValue → ℕ → ℕ → Type 0
IsTogether problem i least =
    OfTarget problem.implementation i
    (λ earlier target. PatchesCostAtLeast problem.implementation problem.goal problem.weights problem.input_weight earlier least)

-- the weight of a net of the implementation, or 0 where it has none
abbrev pub weight_at : ProblemValue → NetId → ℕ
weight_at problem net =
    unwrap_or (weight_of problem.implementation problem.weights problem.input_weight (name_at (names problem.implementation) net.0)) 0

-- one row more where there is one
abbrev pub AddsSome : List (List ℕ) → List (List ℕ) → Option (List ℕ) → Type 0
AddsSome old new None = new ≡ old
AddsSome old new (Some row) = new ≡ old ++ row ∷ []
