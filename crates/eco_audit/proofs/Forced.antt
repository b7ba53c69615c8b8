-- What the answer to one question tells of the bit that an input forces a target to.
use Rattle.std.proofs.Common.{◌≡◌, ◌↔◌, ℕ, suc, Bool, not, Some, List, [], ◌∷◌, ◌++◌, length, map, take, drop, sym, ◌∙◌, ap, subst, arith}
use Rattle.std.specs.List.{slice_get}
use Rattle.std.proofs.lemmas.List.{length-map}
use Rattle.eco_meaning.specs.Circuit.{AreTargets}
use Rattle.eco_meaning.specs.Choice.{IsReached}
use Rattle.eco_meaning.specs.Report.{TargetGroup, targets_in, targets_of}
use Rattle.eco_laws.specs.Asked.{IsFixed, IsUnfixed}
use Rattle.eco_laws.specs.Reached.{IsPatchOf}
use Rattle.eco_laws.proofs.Keeping.{reached_for_fewer}
use Rattle.eco_netlist.proofs.MisfitLemmas.{targets_unique}
use Rattle.eco_trace.specs.Clauses.{Clauses, Valuation, Satisfies, IsUnsatisfiable}
use Rattle.eco_trace.specs.Resolution.{Proof, EndsEmpty}
use Rattle.eco_trace.specs.Verdicts.{IsRefutation}
use Rattle.eco_audit.specs.declared.solution.Solution.{Solution}
use Rattle.eco_audit.specs.Judging.{AreFilled, IsForcedHere, IsJudged, IsUnfixedHere, map_of}
use Rattle.eco_audit.proofs.Groups.{targets_cut}
use Rattle.eco_audit.proofs.Needing.{fixed_is_unforced, unfixed_is_forced}

-- the patch's outputs are the reported targets: those before a group, its own, and those behind it
outputs_cut : (s : Solution) (number : ℕ) (group : TargetGroup) → IsJudged s → slice_get s.report.now.groups number ≡ Some group →
    s.patch.now.outputs ≡ targets_in (take number s.report.now.groups) ++ group.target ∷ targets_in (drop (suc number) s.report.now.groups)
outputs_cut s number group is at = (is.before 2 (omega arith)).outputs ∙ targets_cut s.report.now.groups number group at

-- the patch is one of the targets before a group
pub patch_before : (s : Solution) (number : ℕ) (group : TargetGroup) → IsJudged s → slice_get s.report.now.groups number ≡ Some group →
    IsPatchOf s.problem.now.implementation s.patch.now (targets_in (take number s.report.now.groups))
patch_before s number group is at = record {
  sound = is.implementation;
  patch = is.patch;
  later = [];
  fits = is.fits;
  behind = group.target ∷ targets_in (drop (suc number) s.report.now.groups);
  first = outputs_cut s number group is at;
}

-- and what is reached for all targets is reached for these
pub reached_before : (s : Solution) (number : ℕ) (group : TargetGroup) (x values : List Bool) → IsJudged s → slice_get s.report.now.groups number ≡ Some group → AreFilled s x values →
    IsReached s.problem.now.implementation s.patch.now (targets_in (take number s.report.now.groups)) x (map_of s values)
reached_before s number group x values is at filled =
    let f = s.problem.now.implementation in
    let p = s.patch.now in
    reached_for_fewer f p (targets_in (take number s.report.now.groups)) (group.target ∷ targets_in (drop (suc number) s.report.now.groups)) x (map_of s values)
    (subst (λ earlier. IsReached f p earlier x (map_of s values)) (outputs_cut s number group is at) filled.reached)

-- the input forces the bit exactly where nothing is right that goes on from the values of the targets before and the other bit
pub forced_where_unfixed : (s : Solution) (number : ℕ) (group : TargetGroup) (x values fixed : List Bool) (bit : Bool) → IsJudged s → slice_get s.report.now.groups number ≡ Some group →
    length x ≡ length s.problem.now.implementation.inputs → AreFilled s x values → fixed ≡ map (map_of s values) (targets_in (take number s.report.now.groups)) ++ not bit ∷ [] →
    IsUnfixedHere s fixed x ↔ IsForcedHere s x bit (take number s.report.now.groups) group
forced_where_unfixed s number group x values fixed bit is at len filled same =
    let f = s.problem.now.implementation in
    let goal = s.problem.now.goal in
    let p = s.patch.now in
    let groups = s.report.now.groups in
    let earlier = targets_in (take number groups) in
    let later = targets_in (drop (suc number) groups) in
    let row = map (map_of s values) earlier ++ not bit ∷ [] in
    let cut = targets_cut groups number group at in
    let patch = patch_before s number group is at in
    let reached = reached_before s number group x values is at filled in (
      λ unfixed.
          unfixed_is_forced f goal p earlier group.target later x (map_of s values) bit patch len reached
          (subst (λ (targets : List (List ℕ)). IsUnfixed f goal targets row x) cut (subst (λ (list : List Bool). IsUnfixed f goal (targets_of s.report.now) list x) same unfixed)),
      λ forced bits found.
          fixed_is_unforced f goal p earlier group.target later x bits (map_of s values) bit patch reached
          (subst (λ (targets : List (List ℕ)). IsFixed f goal targets row x bits) cut (subst (λ (list : List Bool). IsFixed f goal (targets_of s.report.now) list x bits) same found)) forced,
    )

-- the targets are as many as the groups
pub targets_count : (s : Solution) (targets : List (List ℕ)) → IsJudged s → AreTargets s.problem.now.implementation targets → length targets ≡ length s.report.now.groups
targets_count s targets is are =
    ap length (targets_unique s.problem.now.implementation targets (targets_of s.report.now) are (is.before 1 (omega arith)))
    ∙ length-map s.report.now.groups (λ (g : TargetGroup). g.target)

-- refuted clauses have no model
pub no_model : (c : Clauses) (p : Proof) → IsRefutation c p → (EndsEmpty p → IsUnsatisfiable p.originals) → (v : Valuation) → Satisfies v c.clauses → ⊥
no_model c p refuted ends v satisfied = ends refuted.ends v (subst (Satisfies v) (sym refuted.originals) satisfied)
