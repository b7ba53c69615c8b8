-- The beginning, where no target has a function.
use Rattle.std.proofs.Common.{◌≡◌, [], length, sym, ap, subst, arith}
use Rattle.eco_query.specs.Problem.{HasSomeTargets, HasTargetNumber, ProblemValue}
use Rattle.eco_base.specs.Targets.{TargetValue}
use Rattle.eco_find.specs.declared.ways.Way.{Way}
use Rattle.eco_progress.specs.declared.progress.Progress.{Progress}
use Rattle.eco_progress.specs.Progress.{IsProgress}
use Rattle.eco_progress.specs.ByWay.{IsProgressBy}
use Rattle.eco_progress.specs.Standing.{IsBegun, StandsAt}

-- a first target comes next
pub first_number : (problem : ProblemValue) (begun : Progress) → HasSomeTargets problem.implementation → begun.groups.items ≡ [] →
    HasTargetNumber problem.implementation (length begun.groups.items)
first_number problem begun some none =
    subst (HasTargetNumber problem.implementation) (sym (ap length none)) (some.count, some.counted, omega (arith, some.some))

-- where a target of the problem stands there, that is a beginning
pub begun_at : (problem : ProblemValue) (t : TargetValue) (begun : Progress) → t.problem ≡ problem → IsProgress problem begun → begun.groups.items ≡ [] →
    ((way : Way) → IsProgressBy way problem begun) → StandsAt begun t → IsBegun t begun
begun_at problem t begun same is none by stands = record {
  progress = subst (λ (p : ProblemValue). IsProgress p begun) (sym same) is;
  none = none;
  by = λ way. subst (λ (p : ProblemValue). IsProgressBy way p begun) (sym same) (by way);
  stands = stands;
}
