-- Where two inputs agree on the other signals that are reported up to a target.
use Rattle.std.proofs.Common.{◌≡◌, ◌↔◌, ℕ, suc, ◌≤◌, Bool, Some, List, [], ◌∷◌, ◌++◌, map, take, drop, sym, ◌∙◌, ap, subst, arith}
use Rattle.std.specs.List.{All, Contains, slice_get}
use Rattle.std.proofs.lemmas.List.Elements.{All-contains, All-map}
use Rattle.std.specs.Prelude.{IsTrue}
use Rattle.eco_lists.proofs.Members.{Contains-map, map-Contains, map-map}
use Rattle.eco_lists.proofs.Places.{All_from_places, Contains_at, place_in_front, place_of, slice_get-take, take_at_more}
use Rattle.eco_meaning.specs.Circuit.{IsSignal, Values}
use Rattle.eco_meaning.specs.Patch.{IsBehindOnly}
use Rattle.eco_meaning.specs.Choice.{AgreeAt, IsOther}
use Rattle.eco_meaning.specs.Report.{BaseSignal, TargetGroup, base_in, signals_in, targets_in}
use Rattle.eco_audit.specs.declared.solution.Solution.{Solution}
use Rattle.eco_audit.specs.Reported.{IsReportedCandidate}
use Rattle.eco_audit.specs.Judging.{AgreeOnOthers, AreFilled, IsJudged, map_of}
use Rattle.eco_audit.proofs.Fitting.{reported_in}
use Rattle.eco_audit.proofs.Forced.{patch_before, reached_before}
use Rattle.eco_audit.proofs.Groups.{cut_at}
use Rattle.eco_audit.proofs.Needing.{alike_by_maps}

-- the targets of fewer groups are among those of more
wider : (groups : List TargetGroup) (k n : ℕ) (target : List ℕ) → k ≤ n → Contains (targets_in (take k groups)) target → Contains (targets_in (take n groups)) target
wider groups k n target most c =
    let (g, among, named) = map-Contains (λ (g : TargetGroup). g.target) (take k groups) target c in
    let (j, at) = place_of (take k groups) g among in
    let (less, there) = place_in_front k groups j g at in
    subst (λ (t : List ℕ). Contains (targets_in (take n groups)) t) named
    (Contains-map (λ (g : TargetGroup). g.target) (take n groups) g (Contains_at (take n groups) j g (slice_get-take n groups j g (omega (arith, less, most)) there)))

-- what the first groups tell are signals that lie behind none but the targets before the last of them
record IsReportedEarly (s : Solution) (number : ℕ) (b : BaseSignal) : Type 0 where
  signal : IsSignal s.problem.now.implementation b.signal
  apart : IsBehindOnly s.problem.now.implementation (targets_in (take number s.report.now.groups)) b.signal

reported_early : (s : Solution) (number : ℕ) (b : BaseSignal) → IsJudged s → Contains (base_in (take (suc number) s.report.now.groups)) b → IsReportedEarly s number b
reported_early s number b is among =
    let groups = s.report.now.groups in
    let (k, g, at, listed) = reported_in (take (suc number) groups) b among in
    let (less, there) = place_in_front (suc number) groups k g at in
    let candidate = All-contains (IsReportedCandidate s.problem.now (take k groups) g) g.base b (is.before 3 (omega arith) (take k groups) g (drop (suc k) groups) (cut_at groups k g there)) listed in
    record {
      signal = candidate.signal;
      apart = λ target is_target fan. wider groups k number target (omega (arith, less)) (candidate.apart target is_target fan);
    }

all_reported_early : (s : Solution) (number : ℕ) → IsJudged s → All (IsReportedEarly s number) (base_in (take (suc number) s.report.now.groups))
all_reported_early s number is =
    let base = base_in (take (suc number) s.report.now.groups) in
    All_from_places (IsReportedEarly s number) base (λ j b at. reported_early s number b is (Contains_at base j b at))

-- so one map at each input decides
pub agree_by_maps : (s : Solution) (number : ℕ) (group : TargetGroup) (name : List ℕ) (x y ones zeros : List Bool) → IsJudged s → slice_get s.report.now.groups number ≡ Some group →
    AreFilled s x ones → AreFilled s y zeros →
    AgreeAt s.problem.now.implementation s.patch.now (targets_in (take number s.report.now.groups)) (IsOther (signals_in (take number s.report.now.groups ++ group ∷ [])) name) x y
    ↔ AgreeOnOthers (signals_in (take (suc number) s.report.now.groups)) name (map_of s ones) (map_of s zeros)
agree_by_maps s number group name x y ones zeros is at first second =
    let f = s.problem.now.implementation in
    let groups = s.report.now.groups in
    let earlier = targets_in (take number groups) in
    let base = base_in (take (suc number) groups) in
    let early = all_reported_early s number is in
    let signals = All-map (IsSignal f) (λ (b : BaseSignal). b.signal) base (All_from_places (λ (b : BaseSignal). IsSignal f b.signal) base (λ j b at_b. (All-contains (IsReportedEarly s number) base b early (Contains_at base j b at_b)).signal)) in
    let apart = All-map (IsBehindOnly f earlier) (λ (b : BaseSignal). b.signal) base (All_from_places (λ (b : BaseSignal). IsBehindOnly f earlier b.signal) base (λ j b at_b. (All-contains (IsReportedEarly s number) base b early (Contains_at base j b at_b)).apart)) in
    subst (λ (list : List TargetGroup). AgreeAt f s.patch.now earlier (IsOther (signals_in list) name) x y ↔ AgreeOnOthers (signals_in (take (suc number) groups)) name (map_of s ones) (map_of s zeros))
    (take_at_more groups number group at)
    (alike_by_maps f s.patch.now earlier (signals_in (take (suc number) groups)) name x y (map_of s ones) (map_of s zeros) (patch_before s number group is at) signals apart
    (reached_before s number group x ones is at first) (reached_before s number group y zeros is at second))

-- the others of some reported signals, one by one
pub others_agree : {X : Type 0} (signal : X → List ℕ) (list : List X) (name : List ℕ) (v u : Values) → All (λ b. (signal b ≡ name → ⊥) → v (signal b) ≡ u (signal b)) list → AgreeOnOthers (map signal list) name v u
others_agree signal list name v u all other is =
    let (b, among, named) = map-Contains signal list other is.0 in
    subst (λ (n : List ℕ). v n ≡ u n) named (All-contains (λ b. (signal b ≡ name → ⊥) → v (signal b) ≡ u (signal b)) list b all among (λ same. is.1 (sym named ∙ same)))

-- the names of signals that are reported by these groups
pub reported_names : {X : Type 0} (value : X → BaseSignal) (base : List X) (groups : List TargetGroup) → map value base ≡ base_in groups → map (λ b. (value b).signal) base ≡ signals_in groups
reported_names value base groups same = sym (map-map value (λ (b : BaseSignal). b.signal) base) ∙ ap (map (λ (b : BaseSignal). b.signal)) same

-- what is found of the maps holds of the inputs
pub reported_alike : (s : Solution) (number : ℕ) (group : TargetGroup) (name : List ℕ) (x y ones zeros : List Bool) (signals : List (List ℕ)) (alike : Bool) → IsJudged s → slice_get s.report.now.groups number ≡ Some group →
    AreFilled s x ones → AreFilled s y zeros → signals ≡ signals_in (take (suc number) s.report.now.groups) → IsTrue alike ↔ AgreeOnOthers signals name (map_of s ones) (map_of s zeros) →
    IsTrue alike ↔ AgreeAt s.problem.now.implementation s.patch.now (targets_in (take number s.report.now.groups)) (IsOther (signals_in (take number s.report.now.groups ++ group ∷ [])) name) x y
reported_alike s number group name x y ones zeros signals alike is at first second same reported =
    let both = agree_by_maps s number group name x y ones zeros is at first second in
    let here = subst (λ (list : List (List ℕ)). IsTrue alike ↔ AgreeOnOthers list name (map_of s ones) (map_of s zeros)) same reported in
    (λ holds. both.1 (here.0 holds), λ agree. here.1 (both.0 agree))
