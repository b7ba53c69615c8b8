-- Findings exclude that a problem is solved, and right rows show it.
use Rattle.std.proofs.Common.{◌≡◌, suc, Some, [], ◌∷◌, ◌++◌, take, drop, refl, sym, subst, arith}
use Rattle.std.specs.List.{All}
use Rattle.std.proofs.lemmas.List.{append-nil}
use Rattle.std.proofs.lemmas.List.Elements.{All-contains, All-map}
use Rattle.eco_lists.proofs.Places.{All_from_places, Contains_at}
use Rattle.eco_meaning.specs.Cost.{IsCandidate, weight_of}
use Rattle.eco_meaning.specs.Report.{BaseSignal, PatchReport, AreCandidates, base_of, signals_in, targets_in}
use Rattle.eco_netlist.proofs.SoundNetlists.{sound_netlist}
use Rattle.eco_pose.proofs.Equivalence.{equivalent_has_none_wrong}
use Rattle.eco_query.specs.Problem.{ProblemValue}
use Rattle.eco_audit.specs.declared.finding.Finding.TheVariants as finding
use Rattle.eco_audit.specs.Reported.{IsSaidOfAll, IsReportedCandidate, IsReportedWeight, IsReadInTime, IsReportedNeeded}
use Rattle.eco_audit.specs.Findings.{HasReportedPorts}
use Rattle.eco_audit.specs.Laws.{FindingsExclude, RowsSolve}
use Rattle.eco_audit.proofs.Fitting.{fits_from, in_time_from, reported_in}
use Rattle.eco_audit.proofs.Groups.{base_reported, by_places, cut_at, signal_reported}
use Rattle.eco_audit.proofs.Rows.{none_wrong}

-- candidates as the report has them, and one by one
reported_candidates : (problem : ProblemValue) (r : PatchReport) → AreCandidates problem.implementation problem.weights problem.input_weight r → IsSaidOfAll (IsReportedCandidate problem) r.groups
reported_candidates problem r are before group behind split =
    All_from_places (IsReportedCandidate problem before group) group.base (λ k b at.
    All-contains (IsCandidate problem.implementation problem.weights problem.input_weight (targets_in before)) (signals_in (group ∷ [])) b.signal (are before group behind split)
    (signal_reported (group ∷ []) 0 group b refl (Contains_at group.base k b at)))

all_candidates : (problem : ProblemValue) (r : PatchReport) → IsSaidOfAll (IsReportedCandidate problem) r.groups → AreCandidates problem.implementation problem.weights problem.input_weight r
all_candidates problem r all before group behind split =
    All-map (IsCandidate problem.implementation problem.weights problem.input_weight (targets_in before)) (λ (b : BaseSignal). b.signal) (group.base ++ [])
    (subst (All (IsReportedCandidate problem before group)) (sym (append-nil group.base)) (all before group behind split))

-- weights likewise
reported_weights : (problem : ProblemValue) (r : PatchReport) → All (λ b. weight_of problem.implementation problem.weights problem.input_weight b.signal ≡ Some b.weight) (base_of r) → IsSaidOfAll (IsReportedWeight problem) r.groups
reported_weights problem r are =
    by_places (λ before group. All (IsReportedWeight problem before group) group.base) r.groups (λ k group at.
    All_from_places (IsReportedWeight problem (take k r.groups) group) group.base (λ j b at_b.
    All-contains (λ (b : BaseSignal). weight_of problem.implementation problem.weights problem.input_weight b.signal ≡ Some b.weight) (base_of r) b are
    (base_reported r.groups k group b at (Contains_at group.base j b at_b))))

all_weights : (problem : ProblemValue) (r : PatchReport) → IsSaidOfAll (IsReportedWeight problem) r.groups → All (λ b. weight_of problem.implementation problem.weights problem.input_weight b.signal ≡ Some b.weight) (base_of r)
all_weights problem r all =
    All_from_places (λ (b : BaseSignal). weight_of problem.implementation problem.weights problem.input_weight b.signal ≡ Some b.weight) (base_of r) (λ j b at_b.
    let (k, group, at, listed) = reported_in r.groups b (Contains_at (base_of r) j b at_b) in
    All-contains (IsReportedWeight problem (take k r.groups) group) group.base b (all (take k r.groups) group (drop (suc k) r.groups) (cut_at r.groups k group at)) listed)

pub findings_exclude : FindingsExclude
findings_exclude problem p out r finding.NotPatched checked fault meets = fault
findings_exclude problem p out r finding.Targets checked fault meets = fault meets.reported.targets
findings_exclude problem p out r finding.Ports checked fault meets =
    fault record { outputs = meets.reported.outputs; inputs = meets.reported.inputs; ports = meets.reported.ports }
findings_exclude problem p out r (finding.Candidate name) checked fault meets =
    none_wrong (IsReportedCandidate problem) r.groups name (reported_candidates problem r meets.reported.candidates) fault
findings_exclude problem p out r (finding.Weight name) checked fault meets =
    none_wrong (IsReportedWeight problem) r.groups name (reported_weights problem r meets.reported.weights) fault
findings_exclude problem p out r finding.Cost checked fault meets = fault meets.reported.cost
findings_exclude problem p out r finding.Gates checked fault meets = fault meets.reported.gates
findings_exclude problem p out r (finding.Inner name) checked fault meets = meets.patched.fits.fresh name fault.holds.wire fault.holds.taken
findings_exclude problem p out r (finding.Reach name) checked fault meets =
    none_wrong (IsReadInTime problem.implementation p) r.groups name (in_time_from problem.implementation p r meets.reported.inputs meets.patched.fits) fault
findings_exclude problem p out r finding.Splice checked fault meets = fault meets.patched.spliced
findings_exclude problem p out r (finding.Need name) checked fault meets = none_wrong (IsReportedNeeded problem p) r.groups name meets.needed fault
findings_exclude problem p out r finding.Bound checked fault meets = fault meets.bound
findings_exclude problem p out r (finding.Differs input) checked fault meets =
    equivalent_has_none_wrong out problem.goal (sound_netlist out checked) meets.patched.equivalent input fault

pub rows_solve : RowsSolve
rows_solve problem p out r checked_patch closed checked hold =
    let ports : HasReportedPorts p r = hold 2 (omega arith) in
    record {
      patched = record {
        fits = fits_from problem p out r checked_patch closed (λ row less. hold row (omega (arith, less)));
        spliced = hold 9 (omega arith);
        loop_free = checked.loop_free;
        equivalent = hold 12 (omega arith);
      };
      reported = record {
        targets = hold 1 (omega arith);
        outputs = ports.outputs;
        inputs = ports.inputs;
        ports = ports.ports;
        candidates = all_candidates problem r (hold 3 (omega arith));
        weights = all_weights problem r (hold 4 (omega arith));
        cost = hold 5 (omega arith);
        gates = hold 6 (omega arith);
      };
      needed = hold 10 (omega arith);
      bound = hold 11 (omega arith);
    }
