-- A patch fits where the reported signals, its wires and what its functions read are right.
use Rattle.std.proofs.Common.{◌≡◌, inl, inr, ℕ, suc, Some, List, [], ◌∷◌, take, drop, refl, sym, ◌∙◌, subst, arith}
use Rattle.std.specs.List.{All, Contains, slice_get}
use Rattle.std.proofs.lemmas.List.{append-nil}
use Rattle.std.proofs.lemmas.List.Elements.{All-contains, Contains-append_cases}
use Rattle.eco_lists.proofs.Members.{Contains_none, map-Contains}
use Rattle.eco_lists.proofs.Places.{All_from_places, Contains_at}
use Rattle.eco_meaning.specs.Circuit.{Circuit, AreTargets, IsSignal, Fan}
use Rattle.eco_meaning.specs.Patch.{Fits, IsBehindOnly}
use Rattle.eco_meaning.specs.Report.{BaseSignal, TargetGroup, PatchReport, base_in, signals_of}
use Rattle.eco_netlist.specs.Netlists.{IsChecked}
use Rattle.eco_netlist.proofs.SoundNetlists.{sound_netlist}
use Rattle.eco_laws.specs.Sound.{IsSound}
use Rattle.eco_query.specs.Problem.{IsClosed, ProblemValue}
use Rattle.eco_audit.specs.Reported.{Saying, IsSaidOfAll, IsReportedCandidate, IsReadInTime}
use Rattle.eco_audit.specs.Findings.{HasReportedPorts}
use Rattle.eco_audit.specs.Judging.{HoldsUpTo, IsJudged}
use Rattle.eco_audit.specs.Rows.{HoldBefore, rows_of_splice}
use Rattle.eco_audit.specs.declared.solution.Solution.{Solution}
use Rattle.eco_audit.proofs.Groups.{by_places, cut_at, signal_reported}

-- each reported signal stands in some group
pub reported_in : (groups : List TargetGroup) (b : BaseSignal) → Contains (base_in groups) b → (k : ℕ) × (group : TargetGroup) × (slice_get groups k ≡ Some group) × Contains group.base b
reported_in [] b c = absurd (Contains_none b c)
reported_in (g ∷ groups) b c =
    elim (Contains-append_cases g.base (base_in groups) b c) [
      | inl here ↦ (0, g, refl, here)
      | inr later ↦
          let (k, group, at, listed) = reported_in groups b later in
          (suc k, group, at, listed)
    ]

-- what can be said of all reported signals can be said of each input of the patch
pub said_of : (Says : Saying) (p : Circuit) (r : PatchReport) (name : List ℕ) → p.inputs ≡ signals_of r → IsSaidOfAll Says r.groups → Contains p.inputs name →
    (before : List TargetGroup) × (group : TargetGroup) × (b : BaseSignal) × (b.signal ≡ name) × Says before group b
said_of Says p r name inputs all c =
    let (b, somewhere, named) = map-Contains (λ (b : BaseSignal). b.signal) (base_in r.groups) name (subst (λ (l : List (List ℕ)). Contains l name) inputs c) in
    let (k, group, at, listed) = reported_in r.groups b somewhere in
    (take k r.groups, group, b, named, All-contains (Says (take k r.groups) group) group.base b (all (take k r.groups) group (drop (suc k) r.groups) (cut_at r.groups k group at)) listed)

-- where the rows are right the patch fits
pub fits_from : (problem : ProblemValue) (p out : Circuit) (r : PatchReport) → IsChecked p → IsClosed p → HoldBefore problem p out r 9 → Fits problem.implementation p []
fits_from problem p out r checked closed hold =
    let f = problem.implementation in
    let ports : HasReportedPorts p r = hold 2 (omega arith) in
    record {
      loop_free = checked.loop_free;
      closed = closed;
      drives = subst (AreTargets f) (sym (append-nil p.outputs ∙ ports.outputs)) (hold 1 (omega arith));
      reads = All_from_places (IsSignal f) p.inputs (λ k name at.
          let (before, group, b, named, is) = said_of (IsReportedCandidate problem) p r name ports.inputs (hold 3 (omega arith)) (Contains_at p.inputs k name at) in
          subst (IsSignal f) named is.signal);
      apart = λ first target later cut name input fan.
          let (before, group, b, named, in_time) = said_of (IsReadInTime f p) p r name ports.inputs (hold 8 (omega arith)) input in
          subst (IsBehindOnly f first) named (in_time first target later cut (subst (λ (n : List ℕ). Fan p n target) (sym named) fan));
      fresh = hold 7 (omega arith);
    }

-- and where it fits all is read in time
pub in_time_from : (f p : Circuit) (r : PatchReport) → p.inputs ≡ signals_of r → Fits f p [] → IsSaidOfAll (IsReadInTime f p) r.groups
in_time_from f p r inputs fits =
    by_places (λ before group. All (IsReadInTime f p before group) group.base) r.groups (λ k group at.
    All_from_places (IsReadInTime f p (take k r.groups) group) group.base (λ j b at_b first target later cut fan.
    fits.apart first target later cut b.signal
    (subst (λ (l : List (List ℕ)). Contains l b.signal) (sym inputs) (signal_reported r.groups k group b at (Contains_at group.base j b at_b))) fan))

-- the needs of signals can be judged if all rows before them are right
pub judged_from : (s : Solution) (f : Circuit) → f ≡ s.problem.now.implementation → IsChecked f → IsChecked s.patch.now → IsChecked s.out.now → IsClosed s.patch.now → HoldsUpTo rows_of_splice s → IsJudged s
judged_from s f same implementation patch out closed before = record {
  implementation = subst IsSound same (sound_netlist f implementation);
  patch = sound_netlist s.patch.now patch;
  spliced = sound_netlist s.out.now out;
  fits = fits_from s.problem.now s.patch.now s.out.now s.report.now patch closed (λ row less. before row (omega (arith, less)));
  before = before;
}
