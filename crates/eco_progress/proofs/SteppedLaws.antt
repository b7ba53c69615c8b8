-- One target more has its function: what was said of the cost of the earlier ones stands, and what is said of it joins.
use Rattle.std.proofs.Common.{◌≡◌, ℕ, Some, None, List, [], ◌∷◌, ◌++◌, length, refl, sym, ◌∙◌, ap, subst, arith}
use Rattle.std.specs.Global.{Vec}
use Rattle.std.specs.List.{slice_get}
use Rattle.std.proofs.lemmas.List.{append-nil, length-append}
use Rattle.eco_lists.proofs.Places.{slice_get-append_left, slice_get-push_last}
use Rattle.eco_meaning.specs.Circuit.{names, AreTargets}
use Rattle.eco_meaning.specs.Bound.{CostAtLeast}
use Rattle.eco_meaning.specs.Choice.{IsGreedyBase}
use Rattle.eco_meaning.specs.Report.{Least, TargetGroup, targets_in, signals_in, AreGreedy, AreLeast}
use Rattle.eco_laws.specs.Parts.{CarriesOver}
use Rattle.eco_netlist.specs.Netlists.{names_at}
use Rattle.eco_query.specs.Problem.{HasTargetNumber, ProblemValue}
use Rattle.eco_pose.proofs.SideLaws.{target_at}
use Rattle.eco_base.specs.Chosen.{IsChosen, chosen_names}
use Rattle.eco_base.specs.declared.choosing.Chosen.{Chosen}
use Rattle.eco_least.specs.Least.{IsLeastCost}
use Rattle.eco_find.specs.declared.ways.Found.{Found}
use Rattle.eco_find.specs.declared.ways.Way.{Way}
use Rattle.eco_progress.specs.declared.progress.Progress.{Progress}
use Rattle.eco_progress.specs.ByWay.{IsBaseFor, IsProgressBy}
use Rattle.eco_progress.specs.Progress.{IsGreedyProgress, IsLeastProgress, IsProgress, report_over, report_with}
use Rattle.eco_progress.specs.Reported.{least_line, reported_group}
use Rattle.eco_progress.specs.Stepped.{IsStepped, IsSteppedAt}
use Rattle.eco_progress.proofs.ChosenLaws.{group_signals}
use Rattle.eco_progress.proofs.GroupLaws.{no_group, push_groups, targets_append}
use Rattle.eco_progress.proofs.StepLaws.{paid_are, targets_are}

-- of no target all is said
none_greedy : (problem : ProblemValue) (progress : Progress) → progress.groups.items ≡ [] → IsGreedyProgress problem progress
none_greedy problem progress none before group behind same = absurd (no_group before group behind (sym none ∙ same))

none_least : (problem : ProblemValue) (progress : Progress) → progress.groups.items ≡ [] → progress.least.items ≡ [] → IsLeastProgress problem progress
none_least problem progress none untold = record {
  count = ap length untold ∙ sym (ap length none);
  told = λ before group behind same. absurd (no_group before group behind (sym none ∙ same));
}

pub none_by : (way : Way) (problem : ProblemValue) (progress : Progress) → progress.groups.items ≡ [] → progress.least.items ≡ [] → IsProgressBy way problem progress
none_by way problem progress none untold = record {
  greedy = λ _. none_greedy problem progress none;
  told = λ _. none_least problem progress none untold;
  untold = λ _. untold;
}

module _ (problem : ProblemValue) (progress : Progress) (chosen : Chosen) (more : Progress) (is : IsProgress problem progress) (before : List (List ℕ)) (target : List ℕ) (behind : List (List ℕ)) (are : AreTargets problem.implementation (before ++ target ∷ behind)) (len : length before ≡ length progress.groups.items) (step : IsSteppedAt problem progress chosen more before target behind) where
  -- both patches are alike in what is said of the targets before a group
  stands_at : (earlier : List TargetGroup) (later : List TargetGroup) → progress.groups.items ≡ earlier ++ later →
      CarriesOver problem.implementation progress.patch more.patch (targets_in earlier) × CarriesOver problem.implementation more.patch progress.patch (targets_in earlier)
  stands_at earlier later same =
      step.stand (targets_in earlier) (targets_in later)
      (sym (targets_are problem progress is before target behind are len) ∙ ap targets_in same ∙ targets_append earlier later)

  greedy_at : IsGreedyBase problem.implementation problem.goal problem.weights problem.input_weight progress.patch before target (names_at (names problem.implementation) progress.functions.base)
      (chosen_names problem.implementation chosen.new.items) → IsGreedyProgress problem progress → IsGreedyProgress problem more
  greedy_at base old =
      let f = problem.implementation in
      let goal = problem.goal in
      let w = problem.weights in
      let input_weight = problem.input_weight in
      let group = reported_group problem target chosen.new.items in
      let groups = progress.groups.items in
      let paid = names_at (names f) progress.functions.base in
      let q = more.patch in
      subst (λ (l : List TargetGroup). AreGreedy f goal w input_weight q (report_over l)) (sym step.groups)
      (push_groups (λ earlier g. IsGreedyBase f goal w input_weight q (targets_in earlier) g.target (signals_in earlier) (signals_in (g ∷ []))) groups group
      (λ earlier g later same. (stands_at earlier (g ∷ later) same).0.greedy goal w input_weight g.target (signals_in earlier) (signals_in (g ∷ [])) (old earlier g later same))
      (subst (λ earlier. IsGreedyBase f goal w input_weight q earlier target (signals_in groups) (signals_in (group ∷ [])))
      (sym (targets_are problem progress is before target behind are len))
      (subst (λ l. IsGreedyBase f goal w input_weight q before target l (signals_in (group ∷ [])))
      (sym (paid_are problem progress is before target behind are len))
      (subst (IsGreedyBase f goal w input_weight q before target paid) (sym (group_signals problem target chosen.new.items))
      ((step.stand before [] (sym (append-nil before))).0.greedy goal w input_weight target paid (chosen_names f chosen.new.items) base)))))

  -- what suffices with the new patch suffices with the old one, where it costs so much
  cost_stands : (earlier : List (List ℕ)) (name : List ℕ) (paid : List (List ℕ)) (cost : ℕ) → CarriesOver problem.implementation more.patch progress.patch earlier →
      CostAtLeast problem.implementation problem.goal problem.weights problem.input_weight progress.patch earlier name paid cost →
      CostAtLeast problem.implementation problem.goal problem.weights problem.input_weight more.patch earlier name paid cost
  cost_stands earlier name paid cost back least signals sum candidates enough weigh =
      least signals sum candidates (back.suffices problem.goal name (paid ++ signals) enough) weigh

  least_at : (cost : ℕ) → CostAtLeast problem.implementation problem.goal problem.weights problem.input_weight progress.patch before target (names_at (names problem.implementation) progress.functions.base) cost →
      IsLeastProgress problem progress →
      AreLeast problem.implementation problem.goal problem.weights problem.input_weight more.patch (report_with more.groups.items (progress.least.items ++ least_line target cost ∷ []))
  least_at cost base old =
      let f = problem.implementation in
      let goal = problem.goal in
      let w = problem.weights in
      let input_weight = problem.input_weight in
      let group = reported_group problem target chosen.new.items in
      let groups = progress.groups.items in
      let lines = progress.least.items in
      let all = lines ++ least_line target cost ∷ [] in
      let paid = names_at (names f) progress.functions.base in
      let q = more.patch in
      let count : length lines ≡ length groups = old.count in
      let counts : length all ≡ length (groups ++ group ∷ []) = omega (arith, count, length-append lines (least_line target cost ∷ []), length-append groups (group ∷ [])) in
      subst (λ (l : List TargetGroup). AreLeast f goal w input_weight q (report_with l all)) (sym step.groups) (record {
        count = counts;
        told = push_groups (λ earlier g. (line : Least) × (slice_get all (length earlier) ≡ Some line) × (line.target ≡ g.target)
            × CostAtLeast f goal w input_weight q (targets_in earlier) g.target (signals_in earlier) line.cost) groups group
            (λ earlier g later same.
            let (line, at, named, least) = old.told earlier g later same in (
              line,
              slice_get-append_left lines (least_line target cost ∷ []) (length earlier) line at,
              named,
              cost_stands (targets_in earlier) g.target (signals_in earlier) line.cost (stands_at earlier (g ∷ later) same).1 least,
            )) (
              least_line target cost,
              ap (slice_get all) (sym count) ∙ slice_get-push_last lines (least_line target cost),
              refl,
              subst (λ earlier. CostAtLeast f goal w input_weight q earlier target (signals_in groups) cost) (sym (targets_are problem progress is before target behind are len))
                  (subst (λ l. CostAtLeast f goal w input_weight q before target l cost) (sym (paid_are problem progress is before target behind are len))
                  (cost_stands before target paid cost (step.stand before [] (sym (append-nil before))).1 base)),
            );
      })

-- the greedy choice joins those of the earlier targets
greedy_more : (problem : ProblemValue) (progress : Progress) (chosen : Chosen) (more : Progress) → IsProgress problem progress → HasTargetNumber problem.implementation (length progress.groups.items) →
    IsChosen problem (length progress.groups.items) progress.patch (names_at (names problem.implementation) progress.functions.base) chosen → IsStepped problem progress chosen more → IsGreedyProgress problem progress → IsGreedyProgress problem more
greedy_more problem progress chosen more is number greedy step =
    let (before, target, behind, are, len) = target_at problem.implementation (length progress.groups.items) number in
    greedy_at problem progress chosen more is before target behind are len (step.here before target behind are len) (greedy before target behind are len).greedy

-- so does what the target costs at least, where it is told of the last group
least_more : (problem : ProblemValue) (progress : Progress) (chosen : Chosen) (more : Progress) (lines : List Least) (cost : ℕ) → IsProgress problem progress → HasTargetNumber problem.implementation (length progress.groups.items) →
    IsLeastCost problem (length progress.groups.items) progress.patch (names_at (names problem.implementation) progress.functions.base) cost → IsStepped problem progress chosen more →
    ((earlier : List TargetGroup) (group : TargetGroup) → more.groups.items ≡ earlier ++ group ∷ [] → lines ≡ more.least.items ++ least_line group.target cost ∷ []) →
    IsLeastProgress problem progress →
    AreLeast problem.implementation problem.goal problem.weights problem.input_weight more.patch (report_with more.groups.items lines)
least_more problem progress chosen more lines cost is number least step told old =
    let (before, target, behind, are, len) = target_at problem.implementation (length progress.groups.items) number in
    let here = step.here before target behind are len in
    subst (λ (l : List Least). AreLeast problem.implementation problem.goal problem.weights problem.input_weight more.patch (report_with more.groups.items l))
    (sym (told progress.groups.items (reported_group problem target chosen.new.items) here.groups ∙ ap (λ (v : Vec Least). v.items ++ least_line target cost ∷ []) step.least))
    (least_at problem progress chosen more is before target behind are len here cost (least before target behind are len) old)

-- what is told of the cost behind the step: of the target's base, or as before
pub record IsTelling (found : Found) (more : Progress) (lines : Vec Least) : Type 0 where
  pub told : (cost : ℕ) (earlier : List TargetGroup) (group : TargetGroup) → found.least ≡ Some cost → more.groups.items ≡ earlier ++ group ∷ [] →
      lines.items ≡ more.least.items ++ least_line group.target cost ∷ []
  pub untold : found.least ≡ None → lines.items ≡ more.least.items

-- so the step keeps what the way promises
pub kept_by : (way : Way) (problem : ProblemValue) (progress : Progress) (found : Found) (more : Progress) (lines : Vec Least) → IsProgress problem progress →
    HasTargetNumber problem.implementation (length progress.groups.items) → IsStepped problem progress found.chosen more → IsTelling found more lines → IsBaseFor way problem progress found →
    IsProgressBy way problem progress → IsProgressBy way problem (record more { least = lines })
kept_by way problem progress found more lines is number step telling base old = record {
  greedy = λ promised. greedy_more problem progress found.chosen more is number (base.greedy promised) step (old.greedy promised);
  told = λ promised.
      let (cost, told, least) = base.told promised in
      least_more problem progress found.chosen more lines.items cost is number least step (λ earlier group. telling.told cost earlier group told) (old.told promised);
  untold = λ silent. telling.untold (base.untold silent) ∙ ap (λ (v : Vec Least). v.items) step.least ∙ old.untold silent;
}
