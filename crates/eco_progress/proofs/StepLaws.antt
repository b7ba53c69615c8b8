-- What stands when the first targets have their functions, at the target that comes next.
use Rattle.std.proofs.Common.{◌≡◌, ℕ, List, [], ◌∷◌, ◌++◌, length, take, drop, sym, ◌∙◌, ap, subst, arith}
use Rattle.std.specs.List.{All}
use Rattle.std.proofs.lemmas.List.{length-append, length-map, length-take}
use Rattle.std.proofs.Math.Seq.{take-append_seam, drop-append_seam}
use Rattle.eco_lists.proofs.Places.{no_items}
use Rattle.eco_meaning.specs.Circuit.{names, AreTargets}
use Rattle.eco_meaning.specs.Patch.{Fits}
use Rattle.eco_meaning.specs.Cost.{IsCandidate}
use Rattle.eco_meaning.specs.Choice.{IsKept}
use Rattle.eco_meaning.specs.Report.{TargetGroup, targets_in, signals_in}
use Rattle.eco_gates.specs.declared.gate.NetId.{NetId}
use Rattle.eco_netlist.specs.Netlists.{names_at}
use Rattle.eco_query.specs.Problem.{HasTargetNumber, ProblemValue}
use Rattle.eco_pose.specs.Questions.{AtTarget}
use Rattle.eco_pose.proofs.SideLaws.{target_at}
use Rattle.eco_base.specs.Chosen.{IsReadyToChoose}
use Rattle.eco_progress.specs.declared.progress.Progress.{Progress}
use Rattle.eco_progress.specs.Progress.{IsProgress}
use Rattle.eco_progress.proofs.GroupLaws.{paid_are_candidates}

module _ (problem : ProblemValue) (progress : Progress) (is : IsProgress problem progress) (before : List (List ℕ)) (target : List ℕ) (behind : List (List ℕ)) (are : AreTargets problem.implementation (before ++ target ∷ behind)) (len : length before ≡ length progress.groups.items) where
  -- the patch drives the targets before this one
  pub roots_count : length progress.functions.roots ≡ length before
  roots_count =
      let all = before ++ target ∷ behind in
      let count = length progress.functions.roots in
      omega (
        arith,
        ap length (is.patch.fits all are).0,
        length-take count all,
        length-append before (target ∷ behind),
        ap length is.groups.targets,
        length-map progress.groups.items (λ (g : TargetGroup). g.target),
        len,
      )

  pub outputs_are : progress.patch.outputs ≡ before
  outputs_are =
      let all = before ++ target ∷ behind in
      (is.patch.fits all are).0 ∙ ap (λ n. take n all) roots_count ∙ take-append_seam before (target ∷ behind)

  fits_here : Fits problem.implementation progress.patch (target ∷ behind)
  fits_here =
      let all = before ++ target ∷ behind in
      subst (Fits problem.implementation progress.patch) (ap (λ n. drop n all) roots_count ∙ drop-append_seam before (target ∷ behind)) (is.patch.fits all are).1

  -- these targets have groups, which tell the signals that are paid
  pub targets_are : targets_in progress.groups.items ≡ before
  targets_are = is.groups.targets ∙ outputs_are

  pub paid_are : signals_in progress.groups.items ≡ names_at (names problem.implementation) progress.functions.base
  paid_are = is.groups.signals ∙ is.patch.inputs

  pub kept_here : IsKept problem.implementation problem.goal progress.patch before
  kept_here = subst (IsKept problem.implementation problem.goal progress.patch) outputs_are is.kept

  pub paid_candidates : All (IsCandidate problem.implementation problem.weights problem.input_weight before) (names_at (names problem.implementation) progress.functions.base)
  paid_candidates =
      let f = problem.implementation in
      subst (All (IsCandidate f problem.weights problem.input_weight before)) paid_are
      (subst (λ earlier. All (IsCandidate f problem.weights problem.input_weight earlier) (signals_in progress.groups.items)) targets_are
      (paid_are_candidates f problem.weights problem.input_weight progress.groups.items is.groups.candidates))

  -- so its base can be chosen
  pub ready : IsReadyToChoose problem progress.patch (names_at (names problem.implementation) progress.functions.base) before target behind
  ready = record {
    patch = record { outputs = outputs_are; fits = fits_here };
    kept = kept_here;
    candidates = paid_candidates;
    distinct = is.distinct;
  }

  pub without_gates : length progress.groups.items ≡ 0 → progress.patch.gates ≡ []
  without_gates none = is.patch.empty (no_items progress.functions.roots (roots_count ∙ len ∙ none))

-- so it is with the number and the nets of the next target
pub ready_next : (problem : ProblemValue) (progress : Progress) (i : ℕ) (nets : List NetId) → IsProgress problem progress → i ≡ length progress.groups.items → nets ≡ progress.functions.base →
    AtTarget problem.implementation i (IsReadyToChoose problem progress.patch (names_at (names problem.implementation) nets))
ready_next problem progress i nets is number base = λ before target behind are len.
    subst (λ (l : List NetId). IsReadyToChoose problem progress.patch (names_at (names problem.implementation) l) before target behind) (sym base)
    (ready problem progress is before target behind are (len ∙ number))

-- and before the first target has a function the patch has no gates
pub first_next : (problem : ProblemValue) (progress : Progress) (i : ℕ) → IsProgress problem progress → HasTargetNumber problem.implementation (length progress.groups.items) → i ≡ length progress.groups.items →
    i ≡ 0 → progress.patch.gates ≡ []
first_next problem progress i is number same none =
    let (before, target, behind, are, len) = target_at problem.implementation (length progress.groups.items) number in
    without_gates problem progress is before target behind are len (sym same ∙ none)
