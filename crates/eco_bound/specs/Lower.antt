-- What a base costs at least, and that no more can be said by one more part.
use Rattle.std.specs.Prelude.{◌≡◌, ℕ, ◌≤◌, ◌<◌, Bool, true, false, List, [], ◌∷◌, All, Contains}
use Rattle.eco_meaning.specs.Circuit.{Circuit, AreTargets}
use Rattle.eco_meaning.specs.Meaning.{IsRectifiable}
use Rattle.eco_meaning.specs.Choice.{IsForced, Suffices}
use Rattle.eco_meaning.specs.Bound.{Bound, IsBoundOf, IsUsedUp, CostAtLeast}
use Rattle.eco_meaning.specs.Report.{BaseSignal}
use Rattle.eco_laws.specs.Kept.{TakesAnyInputs}
use Rattle.eco_query.specs.Problem.{ProblemValue, HasTargetNumber}
use Rattle.eco_pose.specs.Questions.{AtTarget}
use Rattle.eco_desk.specs.Desks.{AreBefore}
use Rattle.eco_base.specs.Targets.{TargetValue}
use Rattle.eco_bound.specs.declared.payers.Payer.{Payer}
use Rattle.eco_bound.specs.Accounts.{UseUp, some_left, spent_names}

-- the signal's two inputs force the target to 1 and to 0
pub record IsForcedPair (problem : ProblemValue) (p : Circuit) (target : List ℕ) (b : BaseSignal) : Type 0 where
  pub one : IsForced problem.implementation problem.goal p [] target b.force1 true
  pub zero : IsForced problem.implementation problem.goal p [] target b.force0 false

-- so do those of all signals, the implementation having this target alone
pub record AreForcedPairs (problem : ProblemValue) (base : List BaseSignal) : Type 0 where
  pub p : Circuit
  pub takes : TakesAnyInputs p
  pub target : List ℕ
  pub single : AreTargets problem.implementation (target ∷ [])
  pub forced : All (IsForcedPair problem p target) base

-- The bound is one of the implementation's single target, and no base costs less. Each part costs something and uses a candidate up,
-- beside the parts before it; and the candidates that are used up suffice, so that no further part costs anything.
pub record IsLowerBound (problem : ProblemValue) (p : Circuit) (bound : Bound) : Type 0 where
  pub target : List ℕ
  pub is_bound : IsBoundOf problem.implementation problem.goal problem.weights problem.input_weight p target bound
  pub some : All (λ part. 1 ≤ part.amount) bound.parts
  pub tight : UseUp problem.implementation problem.weights problem.input_weight p bound.parts
  pub full : Suffices problem.implementation problem.goal p [] target (IsUsedUp problem.implementation problem.weights problem.input_weight p bound.parts)
  pub least : CostAtLeast problem.implementation problem.goal problem.weights problem.input_weight p [] target [] bound.total

-- the patch has no gate and drives no target, and the implementation can be rectified
pub record IsBeginning (problem : ProblemValue) (patch : Circuit) : Type 0 where
  pub rectifiable : IsRectifiable problem.implementation problem.goal
  pub number : HasTargetNumber problem.implementation 0
  pub gates : patch.gates ≡ []
  pub before : AtTarget problem.implementation 0 (AreBefore problem.implementation patch)

-- it is the first target, and the patch drives none
pub record IsFirst (t : TargetValue) : Type 0 where
  pub number : t.number ≡ 0
  pub beginning : IsBeginning t.problem t.patches

-- the candidates that have nothing left suffice for the single target
abbrev pub SpentSuffice : ProblemValue → Circuit → List Payer → Type 0
SpentSuffice problem p payers =
    (target : List ℕ) → AreTargets problem.implementation (target ∷ []) →
    Suffices problem.implementation problem.goal p [] target (Contains (spent_names problem.implementation payers))

-- one candidate more has nothing left, or those that have nothing left suffice
abbrev pub IsRaised : ProblemValue → Circuit → List Payer → List Payer → Bool → Type 0
IsRaised problem p old new true = some_left new < some_left old
IsRaised problem p old new false = SpentSuffice problem p new
