-- What is known of a target.
use Rattle.std.specs.Prelude.{◌++◌, ℕ, Bool, true, false, List, Some, All, Contains}
use Rattle.std.specs.List.{AllZip}
use Rattle.eco_meaning.specs.Choice.{IsForced}
use Rattle.eco_gates.specs.declared.gate.NetId.{NetId}
use Rattle.eco_pose.specs.Questions.{AtTarget, AreDistinct}
use Rattle.eco_base.specs.Conflicts.{IsConflictFound}
use Rattle.eco_base.specs.Walks.{AreKnownFor}
use Rattle.eco_base.specs.declared.separating.Pair.{Pair}
use Rattle.eco_least.specs.Telling.{AreSeenAt, IsSeenAt, IsRowAt}
use Rattle.eco_least.specs.declared.sights.Sight.{Sight}
use Rattle.eco_base.specs.Targets.{TargetValue, named_in, paid_of}
use Rattle.eco_least.specs.declared.weighed.Weighed.{Weighed}
use Rattle.eco_least.specs.declared.account.Account.{Account}

-- the names of the turns
abbrev pub turn_names : TargetValue → Weighed → List (List ℕ)
turn_names t weighed = named_in t weighed.turns.items

-- the inputs force the target to the bit
abbrev pub AreForcing : TargetValue → Bool → List (List Bool) → Type 0
AreForcing t bit inputs =
    AtTarget t.problem.implementation t.number (λ before target behind.
    All (λ x. IsForced t.problem.implementation t.problem.goal t.patches before target x bit) inputs)

-- these are the values at the inputs, one by one
abbrev pub AreSights : TargetValue → Weighed → List (List Bool) → List Sight → Type 0
AreSights t weighed inputs sights =
    AtTarget t.problem.implementation t.number (λ before target behind.
    AllZip (AreSeenAt t.problem.implementation t.patches before (paid_of t) (turn_names t weighed)) inputs sights)

-- each has the values at an input that forces the target to the bit
abbrev pub AreSeen : TargetValue → Weighed → Bool → List Sight → Type 0
AreSeen t weighed bit sights =
    AtTarget t.problem.implementation t.number (λ before target behind.
    All (IsSeenAt t.problem.implementation t.problem.goal t.patches before target (paid_of t) (turn_names t weighed) bit) sights)

-- it is a row of the target
abbrev pub IsRow : TargetValue → Weighed → List ℕ → Type 0
IsRow t weighed row =
    AtTarget t.problem.implementation t.number (λ before target behind.
    IsRowAt t.problem.implementation t.problem.goal t.patches before target (paid_of t) (turn_names t weighed) row)

-- each is a row of the target
abbrev pub AreRows : TargetValue → Weighed → List (List ℕ) → Type 0
AreRows t weighed rows =
    AtTarget t.problem.implementation t.number (λ before target behind.
    All (IsRowAt t.problem.implementation t.problem.goal t.patches before target (paid_of t) (turn_names t weighed)) rows)

-- the inputs are known ones of the target, and so are those of the values and the rows
pub record IsAccount (t : TargetValue) (weighed : Weighed) (account : Account) : Type 0 where
  pub known : AreKnownFor t.problem t.number t.patches account.known
  pub ones : AreSeen t weighed true account.ones.items
  pub zeros : AreSeen t weighed false account.zeros.items
  pub rows : AreRows t weighed account.rows.items

-- the nets are turns of the target, each once
pub record IsPart (t : TargetValue) (weighed : Weighed) (list : List NetId) : Type 0 where
  pub turns : All (Contains weighed.turns.items) list
  pub distinct : AreDistinct (named_in t list)

-- the two inputs show that the list doesn't suffice beside the paid signals
abbrev pub IsConflictOf : TargetValue → List NetId → Pair → Type 0
IsConflictOf t list pair =
    IsConflictFound t.problem t.number t.patches (named_in t (t.paid ++ list)) (Some pair)
