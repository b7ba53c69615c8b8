-- What is judged of the bound that a report tells.
use Rattle.std.specs.Prelude.{◌≡◌, ℕ, List, [], length}
use Rattle.eco_meaning.specs.Circuit.{Circuit}
use Rattle.eco_meaning.specs.Bound.{Part, Bound, IsBound, IsCarried, IsForcedPart}
use Rattle.eco_meaning.specs.Cost.{IsCandidate}
use Rattle.eco_meaning.specs.Report.{TargetGroup}
use Rattle.eco_audit.specs.declared.solution.Solution.{Solution}

-- it is a bound of what a base costs
abbrev pub IsBoundHere : Solution → Bound → Type 0
IsBoundHere s bound =
    IsBound s.problem.now.implementation s.problem.now.goal s.problem.now.weights s.problem.now.input_weight s.patch.now bound

-- the first input of the part forces the target of the group to 1, the second to 0
abbrev pub IsForcedPartHere : Solution → List TargetGroup → TargetGroup → Part → Type 0
IsForcedPartHere s before group part =
    IsForcedPart s.problem.now.implementation s.problem.now.goal s.patch.now group.target part

-- both inputs of the part have a bit for each input of f
pub record HasInputs (f : Circuit) (part : Part) : Type 0 where
  pub one : length part.force1 ≡ length f.inputs
  pub zero : length part.force0 ≡ length f.inputs

-- each candidate carries at most what it weighs
abbrev pub AreCarried : Solution → List Part → Type 0
AreCarried s parts =
    (name : List ℕ) → IsCandidate s.problem.now.implementation s.problem.now.weights s.problem.now.input_weight [] name →
    IsCarried s.problem.now.implementation s.problem.now.weights s.problem.now.input_weight s.patch.now parts name
