-- One more target gets its function.
use Rattle.std.proofs.Common.{◌≡◌, ◌<◌, ◌+◌, ℕ, Bool, List, [], ◌∷◌, ◌++◌, Some, length, take, sym, ◌∙◌, ap, subst, arith}
use Rattle.std.specs.List.{slice_get, All, IsDistinct}
use Rattle.std.specs.Str.{bytes_eq}
use Rattle.std.proofs.lemmas.List.{append_assoc, append-nil, length-append, length-map, map-append}
use Rattle.std.proofs.lemmas.List.Elements.{All-append, All-weaker}
use Rattle.std.proofs.lemmas.Map.Made.{IsDistinct-from_AllPairs}
use Rattle.std.proofs.lemmas.Slice.Eq.{bytes_eq-Decides}
use Rattle.std.proofs.Math.Seq.{take-append-add}
use Rattle.eco_meaning.specs.Circuit.{names, AreTargets, IsSignal}
use Rattle.eco_meaning.specs.Cost.{IsCandidate, weight_of}
use Rattle.eco_meaning.specs.Choice.{IsKept, IsNeeded}
use Rattle.eco_meaning.specs.Report.{BaseSignal, TargetGroup, targets_in, base_in, signals_in, AreCandidates, AreNeeded}
use Rattle.eco_laws.specs.Parts.{CarriesOver}
use Rattle.eco_gates.specs.declared.gate.NetId.{NetId}
use Rattle.eco_netlist.specs.Netlists.{AreNets, IsChecked, name_at, names_at}
use Rattle.eco_netlist.proofs.MisfitLemmas.{targets_unique}
use Rattle.eco_query.specs.Problem.{HasTargetNumber, ProblemValue}
use Rattle.eco_trace.specs.declared.clause.Lit.{Lit}
use Rattle.eco_trace.specs.declared.clause.Var.{Var}
use Rattle.eco_trace.specs.Split.{Split}
use Rattle.eco_pose.specs.Posing.{PosedValue, sides_of}
use Rattle.eco_pose.specs.Questions.{AreDistinct, AtTarget}
use Rattle.eco_pose.specs.Answers.{AsksSeparate}
use Rattle.eco_pose.proofs.SideLaws.{target_at}
use Rattle.eco_splice.specs.GraphPatch.{HasTargets}
use Rattle.eco_base.specs.declared.choosing.Chosen.{Chosen}
use Rattle.eco_base.specs.Chosen.{IsBaseFound, chosen_names}
use Rattle.eco_base.proofs.ChosenLaws.{asks_of_chosen}
use Rattle.eco_functions.specs.Functions.{FunctionsValue, AreFunctions, HasOneMore, LastIsInterpolant, ReadEarlier}
use Rattle.eco_functions.specs.Standing.{IsPatchWith}
use Rattle.eco_progress.specs.Steps.{EarlierStand, InterpolantsKeep, IsFromAnswer, IsNextPatch}
use Rattle.eco_progress.specs.declared.progress.Progress.{Progress}
use Rattle.eco_progress.specs.Extended.{CanExtend}
use Rattle.eco_progress.specs.Progress.{AreGroupsOf, HaveCounts, IsAdvanced, IsProgress, report_over}
use Rattle.eco_progress.specs.Stepped.{IsStepped, IsSteppedAt}
use Rattle.eco_progress.specs.Reported.{nets_in, reported_group}
use Rattle.eco_progress.proofs.GroupLaws.{base_append, counts_push, push_groups, reads_earlier, signals_append, targets_append}
use Rattle.eco_progress.proofs.ChosenLaws.{all_distinct, are_weighted, chosen_are_candidates, group_signals, needed_reported, weights_reported}
use Rattle.eco_progress.proofs.StepLaws.{kept_here, paid_are, paid_candidates, roots_count, targets_are}

-- a fact of the two parts of posed clauses, where these are the same
pub as_posed : (P : Split → List Var → Type 0) (posed : PosedValue) (clauses : List (List Lit)) (marks : List Bool) (shared : List Var) →
    clauses ≡ posed.clauses.clauses → marks ≡ posed.side → shared ≡ posed.shared → P (sides_of posed) posed.shared → P (record { clauses = clauses; marks = marks }) shared
as_posed P posed clauses marks shared same_clauses same_marks same_shared holds =
    subst (λ l. P (record { clauses = l; marks = marks }) shared) (sym same_clauses)
    (subst (λ l. P (record { clauses = posed.clauses.clauses; marks = l }) shared) (sym same_marks)
    (subst (P (sides_of posed)) (sym same_shared) holds))

pub of_posed : (P : Split → List Var → Type 0) (posed : PosedValue) (clauses : List (List Lit)) (marks : List Bool) (shared : List Var) →
    clauses ≡ posed.clauses.clauses → marks ≡ posed.side → shared ≡ posed.shared → P (record { clauses = clauses; marks = marks }) shared → P (sides_of posed) posed.shared
of_posed P posed clauses marks shared same_clauses same_marks same_shared holds =
    subst (P (sides_of posed)) same_shared
    (subst (λ l. P (record { clauses = posed.clauses.clauses; marks = l }) shared) same_marks
    (subst (λ l. P (record { clauses = l; marks = marks }) shared) same_clauses holds))

-- there is a shared variable for each signal
shared_count : (problem : ProblemValue) (progress : Progress) (chosen : Chosen) (before : List (List ℕ)) (target : List ℕ) (behind : List (List ℕ)) →
    AreTargets problem.implementation (before ++ target ∷ behind) →
    IsBaseFound problem progress.patch (names_at (names problem.implementation) progress.functions.base) before target behind chosen →
    length chosen.posed.shared ≡ length progress.functions.base + length (nets_in chosen.new.items)
shared_count problem progress chosen before target behind are base =
    let list = names problem.implementation in
    let asks = asks_of_chosen problem progress.patch (names_at list progress.functions.base) before target behind chosen are base in
    omega (
      arith,
      asks.count,
      length-append (names_at list progress.functions.base) (chosen_names problem.implementation chosen.new.items),
      length-map progress.functions.base (λ (net : NetId). name_at list net.0),
      length-map (nets_in chosen.new.items) (λ (net : NetId). name_at list net.0),
    )

-- the functions can be extended
pub extends : (problem : ProblemValue) (progress : Progress) (chosen : Chosen) (before : List (List ℕ)) (target : List ℕ) (behind : List (List ℕ)) →
    AreTargets problem.implementation (before ++ target ∷ behind) →
    IsBaseFound problem progress.patch (names_at (names problem.implementation) progress.functions.base) before target behind chosen → CanExtend progress.functions chosen
extends problem progress chosen before target behind are base =
    let asks = asks_of_chosen problem progress.patch (names_at (names problem.implementation) progress.functions.base) before target behind chosen are base in
    record {
      refuted = base.refuted;
      marks = asks.marks;
      apart = asks.apart;
      distinct = asks.distinct;
      count = shared_count problem progress chosen before target behind are base;
    }

-- the base of the next target is chosen, and the functions are one more
pub record IsMore (problem : ProblemValue) (progress : Progress) (chosen : Chosen) (functions : FunctionsValue) (before : List (List ℕ)) (target : List ℕ) (behind : List (List ℕ)) : Type 0 where
  pub progress_is : IsProgress problem progress
  pub are : AreTargets problem.implementation (before ++ target ∷ behind)
  pub len : length before ≡ length progress.groups.items
  pub base : IsBaseFound problem progress.patch (names_at (names problem.implementation) progress.functions.base) before target behind chosen
  pub more : HasOneMore progress.functions (nets_in chosen.new.items) functions
  pub functions_are : AreFunctions progress.functions

module _ (problem : ProblemValue) (progress : Progress) (chosen : Chosen) (functions : FunctionsValue) (before : List (List ℕ)) (target : List ℕ) (behind : List (List ℕ)) (is : IsMore problem progress chosen functions before target behind) where
  -- the functions may read the paid signals and the chosen ones
  pub names_are : names_at (names problem.implementation) functions.base
      ≡ names_at (names problem.implementation) progress.functions.base ++ chosen_names problem.implementation chosen.new.items
  names_are =
      let list = names problem.implementation in
      ap (names_at list) is.more.base ∙ map-append (λ (net : NetId). name_at list net.0) progress.functions.base (nets_in chosen.new.items)

  pub nets_are : AreNets (names problem.implementation) functions.base
  nets_are =
      let list = names problem.implementation in
      subst (AreNets list) (sym is.more.base)
      (All-append (λ (net : NetId). net.0 < length list) progress.functions.base (nets_in chosen.new.items) is.progress_is.nets is.base.nets)

  pub names_distinct : AreDistinct (names_at (names problem.implementation) functions.base)
  names_distinct =
      let paid = names_at (names problem.implementation) progress.functions.base in
      subst AreDistinct (sym names_are) (all_distinct problem progress.patch paid before target behind chosen is.base is.progress_is.distinct)

  pub names_differ : IsDistinct bytes_eq (names_at (names problem.implementation) functions.base)
  names_differ = IsDistinct-from_AllPairs bytes_eq-Decides (names_at (names problem.implementation) functions.base) names_distinct

  all_candidates : All (IsCandidate problem.implementation problem.weights problem.input_weight before) (names_at (names problem.implementation) functions.base)
  all_candidates =
      let f = problem.implementation in
      let paid = names_at (names f) progress.functions.base in
      let Is = IsCandidate f problem.weights problem.input_weight before in
      subst (All Is) (sym names_are)
      (All-append Is paid (chosen_names f chosen.new.items)
      (paid_candidates problem progress is.progress_is before target behind is.are is.len)
      (chosen_are_candidates problem progress.patch paid before target behind chosen is.base))

  pub are_signals : All (IsSignal problem.implementation) (names_at (names problem.implementation) functions.base)
  are_signals =
      let f = problem.implementation in
      All-weaker (IsCandidate f problem.weights problem.input_weight before) (IsSignal f) (λ name candidate. candidate.signal) (names_at (names f) functions.base) all_candidates

  roots_are : length functions.roots ≡ length before + 1
  roots_are = omega (arith, is.more.roots, roots_count problem progress is.progress_is before target behind is.are is.len)

  pub enough_targets : HasTargets problem.implementation (length functions.roots)
  enough_targets = (before ++ target ∷ behind, is.are, omega (arith, roots_are, length-append before (target ∷ behind)))

  -- the groups tell of the target too
  targets_reported : targets_in (progress.groups.items ++ reported_group problem target chosen.new.items ∷ []) ≡ before ++ target ∷ []
  targets_reported =
      targets_append progress.groups.items (reported_group problem target chosen.new.items ∷ [])
      ∙ ap (λ l. l ++ target ∷ []) (targets_are problem progress is.progress_is before target behind is.are is.len)

  signals_reported : signals_in (progress.groups.items ++ reported_group problem target chosen.new.items ∷ []) ≡ names_at (names problem.implementation) functions.base
  signals_reported =
      let paid = names_at (names problem.implementation) progress.functions.base in
      let group = reported_group problem target chosen.new.items in
      signals_append progress.groups.items (group ∷ [])
      ∙ ap (λ l. l ++ signals_in (group ∷ [])) (paid_are problem progress is.progress_is before target behind is.are is.len)
      ∙ ap (λ l. paid ++ l) (group_signals problem target chosen.new.items) ∙ sym names_are

  candidates_reported : AreCandidates problem.implementation problem.weights problem.input_weight (report_over (progress.groups.items ++ reported_group problem target chosen.new.items ∷ []))
  candidates_reported =
      let f = problem.implementation in
      let paid = names_at (names f) progress.functions.base in
      let group = reported_group problem target chosen.new.items in
      push_groups (λ earlier g. All (IsCandidate f problem.weights problem.input_weight (targets_in earlier)) (signals_in (g ∷ []))) progress.groups.items group
      is.progress_is.groups.candidates
      (subst (λ earlier. All (IsCandidate f problem.weights problem.input_weight earlier) (signals_in (group ∷ []))) (sym (targets_are problem progress is.progress_is before target behind is.are is.len))
      (subst (All (IsCandidate f problem.weights problem.input_weight before)) (sym (group_signals problem target chosen.new.items))
      (chosen_are_candidates problem progress.patch paid before target behind chosen is.base)))

  counts_reported : HaveCounts (progress.groups.items ++ reported_group problem target chosen.new.items ∷ []) functions.counts
  counts_reported =
      let group = reported_group problem target chosen.new.items in
      subst (HaveCounts (progress.groups.items ++ group ∷ [])) (sym is.more.counts)
      (counts_push progress.groups.items group progress.functions.counts (length functions.base) is.progress_is.counts
      (is.functions_are.count ∙ roots_count problem progress is.progress_is before target behind is.are is.len ∙ is.len)
      (sym (ap length signals_reported ∙ length-map functions.base (λ (net : NetId). name_at (names problem.implementation) net.0))))

  -- what each target may read lies behind no target but those before it
  pub read_earlier : ReadEarlier problem.implementation functions
  read_earlier targets are k count place name at_count within at =
      let f = problem.implementation in
      let group = reported_group problem target chosen.new.items in
      let groups = progress.groups.items ++ group ∷ [] in
      let long : length functions.counts ≡ length groups =
      omega (
        arith,
        ap length is.more.counts,
        length-append progress.functions.counts (length functions.base ∷ []),
        length-append progress.groups.items (group ∷ []),
        is.functions_are.count,
        roots_count problem progress is.progress_is before target behind is.are is.len,
        is.len,
      ) in
      let same : targets ≡ targets_in groups ++ behind =
      targets_unique f targets (before ++ target ∷ behind) are is.are ∙ sym (ap (λ l. l ++ behind) targets_reported ∙ append_assoc before (target ∷ []) behind) in
      reads_earlier f problem.weights problem.input_weight groups functions.counts targets behind candidates_reported counts_reported long same k count place name at_count within
      (ap (λ l. slice_get l place) signals_reported ∙ at)

-- the functions stand in a patch, the last from an interpolant, and the groups tell of its target too
pub record IsMade (problem : ProblemValue) (progress : Progress) (chosen : Chosen) (made : Progress) (before : List (List ℕ)) (target : List ℕ) (behind : List (List ℕ)) : Type 0 where
  pub checked : IsChecked problem.implementation
  pub more_is : IsMore problem progress chosen made.functions before target behind
  pub made_functions : AreFunctions made.functions
  pub patch : IsPatchWith problem.implementation made.functions made.patch
  pub between : LastIsInterpolant (sides_of chosen.posed) chosen.posed.shared made.functions
  pub groups : made.groups.items ≡ progress.groups.items ++ reported_group problem target chosen.new.items ∷ []

module _ (problem : ProblemValue) (progress : Progress) (chosen : Chosen) (made : Progress) (before : List (List ℕ)) (target : List ℕ) (behind : List (List ℕ)) (is : IsMade problem progress chosen made before target behind) (keep : InterpolantsKeep) (stand : EarlierStand) where
  next : IsNextPatch problem.implementation before target behind progress.functions (nets_in chosen.new.items) made.functions progress.patch made.patch
  next = record {
    implementation = is.checked;
    targets = is.more_is.are;
    old_functions = is.more_is.functions_are;
    new_functions = is.made_functions;
    count = roots_count problem progress is.more_is.progress_is before target behind is.more_is.are is.more_is.len;
    first = is.more_is.progress_is.patch;
    next = is.patch;
    more = is.more_is.more;
  }

  from_answer : IsFromAnswer problem.implementation problem.goal before target behind made.functions progress.patch
  from_answer =
      let f = problem.implementation in
      record {
        rests = is.more_is.base.rests;
        posed = chosen.posed;
        asks = subst (λ l. AsksSeparate f problem.goal progress.patch before target behind is.more_is.base.rests l chosen.posed)
            (sym (names_are problem progress chosen made.functions before target behind is.more_is))
            (asks_of_chosen problem progress.patch (names_at (names f) progress.functions.base) before target behind chosen is.more_is.are is.more_is.base);
        between = is.between;
      }

  -- f can still be rectified
  outputs_made : made.patch.outputs ≡ before ++ target ∷ []
  outputs_made =
      let all = before ++ target ∷ behind in
      (is.patch.fits all is.more_is.are).0 ∙ ap (λ n. take n all) (roots_are problem progress chosen made.functions before target behind is.more_is) ∙ take-append-add before (target ∷ behind) 1

  kept_made : IsKept problem.implementation problem.goal made.patch made.patch.outputs
  kept_made =
      let f = problem.implementation in
      subst (IsKept f problem.goal made.patch) (sym outputs_made)
      (keep f problem.goal problem.weights problem.input_weight before target behind progress.functions (nets_in chosen.new.items) made.functions progress.patch made.patch next from_answer
      (all_candidates problem progress chosen made.functions before target behind is.more_is)
      (kept_here problem progress is.more_is.progress_is before target behind is.more_is.are is.more_is.len))

  -- what is reported of the targets before this one stands
  stands : (first rest : List (List ℕ)) → before ≡ first ++ rest → CarriesOver problem.implementation progress.patch made.patch first × CarriesOver problem.implementation made.patch progress.patch first
  stands first rest same = stand problem.implementation before target behind progress.functions (nets_in chosen.new.items) made.functions progress.patch made.patch next first rest same

  stepped_made : IsSteppedAt problem progress chosen made before target behind
  stepped_made = record { groups = is.groups; stand = stands }

  stands_at : (earlier : List TargetGroup) (g : TargetGroup) (later : List TargetGroup) → progress.groups.items ≡ earlier ++ g ∷ later → CarriesOver problem.implementation progress.patch made.patch (targets_in earlier)
  stands_at earlier g later same =
      (stands (targets_in earlier) (targets_in (g ∷ later))
      (sym (targets_are problem progress is.more_is.progress_is before target behind is.more_is.are is.more_is.len) ∙ ap targets_in same ∙ targets_append earlier (g ∷ later))).0

  stands_here : CarriesOver problem.implementation progress.patch made.patch before
  stands_here = (stands before [] (sym (append-nil before))).0

  needed_made : AreNeeded problem.implementation problem.goal made.patch (report_over (progress.groups.items ++ reported_group problem target chosen.new.items ∷ []))
  needed_made =
      let f = problem.implementation in
      let goal = problem.goal in
      let group = reported_group problem target chosen.new.items in
      let groups = progress.groups.items in
      let paid = names_at (names f) progress.functions.base in
      let all = paid ++ chosen_names f chosen.new.items in
      let old = is.more_is.progress_is in
      let reported : signals_in (groups ++ group ∷ []) ≡ all =
      signals_reported problem progress chosen made.functions before target behind is.more_is ∙ names_are problem progress chosen made.functions before target behind is.more_is in
      push_groups (λ earlier g. All (λ (b : BaseSignal). IsNeeded f goal made.patch (targets_in earlier) g.target (signals_in (earlier ++ g ∷ [])) b.signal b.force1 b.force0) g.base) groups group
      (λ earlier g later same.
      All-weaker (λ (b : BaseSignal). IsNeeded f goal progress.patch (targets_in earlier) g.target (signals_in (earlier ++ g ∷ [])) b.signal b.force1 b.force0)
      (λ (b : BaseSignal). IsNeeded f goal made.patch (targets_in earlier) g.target (signals_in (earlier ++ g ∷ [])) b.signal b.force1 b.force0)
      (λ b needed. (stands_at earlier g later same).needed goal g.target (signals_in (earlier ++ g ∷ [])) b.signal b.force1 b.force0 needed)
      g.base (old.groups.needed earlier g later same))
      (subst (λ earlier. All (λ (b : BaseSignal). IsNeeded f goal made.patch earlier target (signals_in (groups ++ group ∷ [])) b.signal b.force1 b.force0) group.base)
      (sym (targets_are problem progress old before target behind is.more_is.are is.more_is.len))
      (subst (λ l. All (λ (b : BaseSignal). IsNeeded f goal made.patch before target l b.signal b.force1 b.force0) group.base) (sym reported)
      (All-weaker (λ (b : BaseSignal). IsNeeded f goal progress.patch before target all b.signal b.force1 b.force0)
      (λ (b : BaseSignal). IsNeeded f goal made.patch before target all b.signal b.force1 b.force0)
      (λ b needed. stands_here.needed goal target all b.signal b.force1 b.force0 needed)
      group.base (needed_reported problem progress.patch paid before target behind chosen is.more_is.base))))

  weights_made : All (λ (b : BaseSignal). weight_of problem.implementation problem.weights problem.input_weight b.signal ≡ Some b.weight)
      (base_in (progress.groups.items ++ reported_group problem target chosen.new.items ∷ []))
  weights_made =
      let f = problem.implementation in
      let Is = λ (b : BaseSignal). weight_of f problem.weights problem.input_weight b.signal ≡ Some b.weight in
      let group = reported_group problem target chosen.new.items in
      let groups = progress.groups.items in
      let paid = names_at (names f) progress.functions.base in
      subst (All Is) (sym (base_append groups (group ∷ [])))
      (All-append Is (base_in groups) (base_in (group ∷ [])) is.more_is.progress_is.groups.weights
      (subst (All Is) (sym (append-nil group.base))
      (weights_reported problem chosen.new.items (are_weighted problem progress.patch paid before target behind chosen is.more_is.base))))

  further_made : IsProgress problem made
  further_made =
      let all = progress.groups.items ++ reported_group problem target chosen.new.items ∷ [] in
      record {
        nets = nets_are problem progress chosen made.functions before target behind is.more_is;
        distinct = names_distinct problem progress chosen made.functions before target behind is.more_is;
        patch = is.patch;
        kept = kept_made;
        groups = subst (AreGroupsOf problem made.patch) (sym is.groups) (record {
          targets = targets_reported problem progress chosen made.functions before target behind is.more_is ∙ sym outputs_made;
          signals = signals_reported problem progress chosen made.functions before target behind is.more_is ∙ sym is.patch.inputs;
          candidates = candidates_reported problem progress chosen made.functions before target behind is.more_is;
          weights = weights_made;
          needed = needed_made;
        });
        counts = subst (λ l. HaveCounts l made.functions.counts) (sym is.groups) (counts_reported problem progress chosen made.functions before target behind is.more_is);
      }

-- so one more target has its function, and the rest is as it was
pub advanced : (problem : ProblemValue) (progress : Progress) (chosen : Chosen) (made : Progress) → HasTargetNumber problem.implementation (length progress.groups.items) →
    AtTarget problem.implementation (length progress.groups.items) (IsMade problem progress chosen made) → InterpolantsKeep → EarlierStand → made.least ≡ progress.least →
    IsAdvanced problem (length progress.groups.items) made × IsStepped problem progress chosen made
advanced problem progress chosen made number is keep stand least =
    let old = progress.groups.items in
    let (before, target, behind, are, len) = target_at problem.implementation (length old) number in
    let here = is before target behind are len in (
      (
        further_made problem progress chosen made before target behind here keep stand,
        omega (arith, ap length here.groups, length-append old (reported_group problem target chosen.new.items ∷ [])),
      ),
      record { here = λ b t l a n. stepped_made problem progress chosen made b t l (is b t l a n) keep stand; least = least },
    )
