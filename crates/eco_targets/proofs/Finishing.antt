-- When each target has its function, the patch solves the problem.
use Rattle.std.proofs.Common.{◌≡◌, ℕ, ◌≤◌, Some, None, List, [], ◌∷◌, ◌++◌, length, take, refl, sym, ◌∙◌, ap, subst, arith, append_assoc}
use Rattle.std.specs.List.{Contains, slice_get}
use Rattle.std.proofs.Math.Seq.{take-append_seam}
use Rattle.std.proofs.lemmas.List.{drop_all, length-map, length-take, map-append}
use Rattle.std.proofs.lemmas.List.Elements.{All-contains}
use Rattle.eco_lists.proofs.Members.{Contains_none}
use Rattle.eco_lists.proofs.Places.{All_from_places, Contains_at}
use Rattle.eco_meaning.specs.Circuit.{Circuit, NamedGate, names, Reads, IsLoopFree, AreTargets}
use Rattle.eco_meaning.specs.Meaning.{IsRectifiable, IsEquivalent}
use Rattle.eco_meaning.specs.Patch.{Fits, ReadsAllInputs, splice_of}
use Rattle.eco_meaning.specs.Choice.{IsKept, IsNeeded}
use Rattle.eco_meaning.specs.Report.{PatchReport, BaseSignal, TargetGroup, Least, IsReported, AreGreedy, AreLeast, base_in, signals_in, targets_in, cost_of}
use Rattle.eco_laws.specs.Kept.{CaresForInputs, HasAllForcedBits}
use Rattle.eco_laws.proofs.Keeping.{forced_bits_are_all, kept_for_fewer, kept_is_equivalent, whole_targets}
use Rattle.eco_netlist.specs.Netlists.{names_at}
use Rattle.eco_netlist.proofs.SoundNetlists.{sound_netlist}
use Rattle.eco_query.specs.Problem.{ProblemValue, IsProblem}
use Rattle.eco_functions.specs.Functions.{AreFunctions}
use Rattle.eco_progress.specs.Steps.{IsRead, NeededAreRead}
use Rattle.eco_progress.specs.declared.progress.Progress.{Progress}
use Rattle.eco_progress.specs.Progress.{IsGreedyProgress, IsLeastProgress, report_over, report_with}
use Rattle.eco_progress.proofs.GroupLaws.{signals_append}
use Rattle.eco_find.specs.declared.ways.Way.{Way}
use Rattle.eco_progress.specs.ByWay.{IsProgressBy}
use Rattle.eco_targets.specs.ByWay.{IsMadeBy}
use Rattle.eco_targets.specs.Complete.{IsComplete}
use Rattle.eco_targets.specs.Finished.{IsFinished}
use Rattle.eco_targets.specs.Made.{IsMade, IsMadeLeast}
use Rattle.eco_targets.proofs.GroupLists.{StandsIn, stands_in, signal_of_last}

-- the patch leaves no target
pub fits_all : (problem : ProblemValue) (progress : Progress) → IsComplete problem progress → Fits problem.implementation progress.patch []
fits_all problem progress complete =
    let p = progress.patch in
    let (targets, are, count) = complete.all in
    let n = length progress.functions.roots in
    let (first, fits) = complete.stands.patch.fits targets are in
    let driven : length p.outputs ≡ length targets =
    ap length (sym complete.stands.groups.targets) ∙ length-map progress.groups.items (λ (g : TargetGroup). g.target) ∙ sym count in
    let taken : length p.outputs ≡ length (take n targets) = ap length first in
    let least = length-take n targets in
    let enough : length targets ≤ n = omega (arith, driven, taken, least) in
    subst (Fits problem.implementation p) (drop_all n targets enough) fits

module _ (problem : ProblemValue) (progress : Progress) (is : IsProblem problem.implementation problem.goal) (complete : IsComplete problem progress) where
  abbrev f : Circuit
  f = problem.implementation

  abbrev p : Circuit
  p = progress.patch

  cares : CaresForInputs f problem.goal
  cares care is_care name c = ((is.care care is_care).inputs name).1 c

  equivalent : IsEquivalent (splice_of f p) problem.goal
  equivalent =
      (kept_is_equivalent f problem.goal p (sound_netlist f is.implementation) (sound_netlist p complete.stands.patch.checked)
      (fits_all problem progress complete) cares).0 complete.stands.kept

  has_forced_bits : HasAllForcedBits f problem.goal p
  has_forced_bits =
      ((forced_bits_are_all f problem.goal p (sound_netlist f is.implementation) (sound_netlist p complete.stands.patch.checked)
      (fits_all problem progress complete) cares).0 equivalent).1

  -- the signals up to a group's are those that its target may read
  signals_up_to : (before : List TargetGroup) (group : TargetGroup) (behind : List TargetGroup) → progress.groups.items ≡ before ++ group ∷ behind →
      take (length (signals_in (before ++ group ∷ []))) (names_at (names f) progress.functions.base) ≡ signals_in (before ++ group ∷ [])
  signals_up_to before group behind cut =
      let first = signals_in (before ++ group ∷ []) in
      let named : names_at (names f) progress.functions.base ≡ first ++ signals_in behind =
      sym complete.stands.patch.inputs ∙ sym complete.stands.groups.signals
      ∙ ap signals_in (cut ∙ sym (append_assoc before (group ∷ []) behind)) ∙ signals_append (before ++ group ∷ []) behind in
      ap (take (length first)) named ∙ take-append_seam first (signals_in behind)

  -- an input of the patch is needed in the group where it is told, so that a gate reads it
  is_read : AreFunctions progress.functions → NeededAreRead → (name : List ℕ) → StandsIn progress.groups.items name → IsRead p name
  is_read functions law name stands =
      let before = stands.before in
      let group = stands.group in
      let first = signals_in (before ++ group ∷ []) in
      let count = length first in
      let up_to = signals_up_to before group stands.behind stands.cut in
      let outputs : p.outputs ≡ targets_in before ++ group.target ∷ targets_in stands.behind =
      sym complete.stands.groups.targets ∙ ap targets_in stands.cut ∙ map-append (λ (g : TargetGroup). g.target) before (group ∷ stands.behind) in
      let counted : slice_get progress.functions.counts (length (targets_in before)) ≡ Some count =
      ap (slice_get progress.functions.counts) (length-map before (λ (g : TargetGroup). g.target))
      ∙ complete.stands.counts before group stands.behind stands.cut in
      let told = stands.told in
      let needed = All-contains (λ (b : BaseSignal). IsNeeded f problem.goal p (targets_in before) group.target first b.signal b.force1 b.force0) group.base told
      (complete.stands.groups.needed before group stands.behind stands.cut) stands.listed in
      subst (IsRead p) stands.named
      (law f problem.goal progress.functions p is.implementation functions complete.stands.patch has_forced_bits
      (targets_in before) group.target (targets_in stands.behind) outputs count counted told.signal told.force1 told.force0
      (subst (λ (l : List (List ℕ)). Contains l told.signal) (sym up_to) (signal_of_last before group told stands.listed))
      (subst (λ (l : List (List ℕ)). IsNeeded f problem.goal p (targets_in before) group.target l told.signal told.force1 told.force0) (sym up_to) needed))

  reads_all : AreFunctions progress.functions → NeededAreRead → ReadsAllInputs p
  reads_all functions law =
      All_from_places (λ name. (gate : NamedGate) × Contains p.gates gate × Reads gate name) p.inputs (λ k name at.
      is_read functions law name
      (stands_in progress.groups.items name (subst (λ (l : List (List ℕ)). Contains l name) (sym complete.stands.groups.signals) (Contains_at p.inputs k name at))))

  -- what is reported of the patch
  abbrev pub report_of : ℕ → ℕ → PatchReport
  report_of cost gates = record { cost = cost; gates = gates; groups = progress.groups.items; bound = None; least = progress.least.items }

  reported : (cost gates : ℕ) → cost ≡ cost_of (base_in progress.groups.items) → gates ≡ length p.gates → IsReported f problem.weights problem.input_weight p (report_of cost gates)
  reported cost gates same_cost same_gates =
      let groups = complete.stands.groups in
      record {
        targets = subst (AreTargets f) (sym groups.targets) (whole_targets f p (fits_all problem progress complete));
        outputs = sym groups.targets;
        inputs = sym groups.signals;
        ports = complete.stands.patch.ports ∙ ap (λ l. l ++ p.inputs) (sym groups.targets)
            ∙ ap (λ l. targets_in progress.groups.items ++ l) (sym groups.signals);
        candidates = groups.candidates;
        weights = groups.weights;
        cost = same_cost;
        gates = same_gates;
      }

  -- the patch, the splice and the report are what is made of the functions
  pub is_finished : AreFunctions progress.functions → NeededAreRead → IsRectifiable f problem.goal → (cost gates : ℕ) → cost ≡ cost_of (base_in progress.groups.items) → gates ≡ length p.gates →
      IsLoopFree (splice_of f p) → ((later : List (List ℕ)) → Fits f p later → AreTargets (splice_of f p) later) →
      IsFinished problem progress p (splice_of f p) (report_of cost gates)
  is_finished functions law rectifiable cost gates same_cost same_gates loop_free left =
      let fits = fits_all problem progress complete in
      record {
        meets = record {
          patched = record { fits = fits; spliced = refl; loop_free = loop_free; equivalent = equivalent };
          reported = reported cost gates same_cost same_gates;
          needed = complete.stands.groups.needed;
          bound = tt;
        };
        read = reads_all functions law;
        rectifiable = rectifiable;
        kept = λ first later cut. kept_for_fewer f problem.goal p first later (subst (IsKept f problem.goal p) cut complete.stands.kept);
        unbound = refl;
        patch_closed = fits.closed;
        spliced_closed = λ name target. Contains_none name ((left [] fits).complete name target);
        patch = refl;
        groups = refl;
        least = refl;
      }

-- where the signals are the greedy choice and no cost is told of, it is what the plain synthesis makes
made_greedy : (problem : ProblemValue) (progress : Progress) (q out : Circuit) (report : PatchReport) → IsFinished problem progress q out report → IsGreedyProgress problem progress → progress.least.items ≡ [] →
    IsMade problem q out report
made_greedy problem progress q out report is greedy untold = record {
  meets = is.meets;
  frugal = record {
    read = is.read;
    greedy =
        subst (λ (groups : List TargetGroup). AreGreedy problem.implementation problem.goal problem.weights problem.input_weight q (report_over groups)) (sym is.groups)
        (subst (λ (c : Circuit). AreGreedy problem.implementation problem.goal problem.weights problem.input_weight c (report_over progress.groups.items)) (sym is.patch) greedy);
  };
  rectifiable = is.rectifiable;
  kept = is.kept;
  unbound = is.unbound;
  untold = is.least ∙ untold;
  patch_closed = is.patch_closed;
  spliced_closed = is.spliced_closed;
}

-- where it is told of each target what it costs at least, it is what the synthesis of little cost makes
made_least : (problem : ProblemValue) (progress : Progress) (q out : Circuit) (report : PatchReport) → IsFinished problem progress q out report → IsLeastProgress problem progress →
    IsMadeLeast problem q out report
made_least problem progress q out report is least =
    let told =
    subst (λ (groups : List TargetGroup). AreLeast problem.implementation problem.goal problem.weights problem.input_weight q (report_with groups report.least)) (sym is.groups)
    (subst (λ (lines : List Least). AreLeast problem.implementation problem.goal problem.weights problem.input_weight q (report_with progress.groups.items lines)) (sym is.least)
    (subst (λ (c : Circuit). AreLeast problem.implementation problem.goal problem.weights problem.input_weight c (report_with progress.groups.items progress.least.items)) (sym is.patch) least)) in
    record {
      meets = is.meets;
      read = is.read;
      least = record { count = told.count; told = told.told };
      rectifiable = is.rectifiable;
      kept = is.kept;
      unbound = is.unbound;
      patch_closed = is.patch_closed;
      spliced_closed = is.spliced_closed;
    }

-- where the signals keep what the way promises, it is what the way makes
pub made_in_way : (way : Way) (problem : ProblemValue) (progress : Progress) (q out : Circuit) (report : PatchReport) → IsFinished problem progress q out report → IsProgressBy way problem progress →
    IsMadeBy way problem q out report
made_in_way way problem progress q out report is by = record {
  frugal = λ greedy silent. made_greedy problem progress q out report is (by.greedy greedy) (by.untold silent);
  told = λ tells. made_least problem progress q out report is (by.told tells);
}
