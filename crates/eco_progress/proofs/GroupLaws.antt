-- Groups of targets one after the other.
use Rattle.std.proofs.Common.{◌≡◌, ◌<◌, ◌⊎◌, inl, inr, ℕ, List, [], ◌∷◌, ◌++◌, Some, length, map, take, refl, sym, ◌∙◌, ap, subst, arith}
use Rattle.std.specs.List.{slice_get, All, Contains}
use Rattle.std.proofs.lemmas.Grind.{flat_map-append}
use Rattle.std.proofs.lemmas.List.{append_assoc, length-append, length-map, map-append}
use Rattle.std.proofs.lemmas.List.Elements.{All-append, All-contains, Contains-append_cases, Contains-append_left}
use Rattle.std.proofs.lemmas.Option.{same_Some, slice_get_within}
use Rattle.std.proofs.Math.Seq.{take-append_seam}
use Rattle.eco_lists.proofs.Members.{Contains_none}
use Rattle.eco_lists.proofs.Places.{All_at, All_from_places, Contains_at, slice_get-append_left, slice_get-front, slice_get-push_last}
use Rattle.eco_meaning.specs.Circuit.{Circuit}
use Rattle.eco_meaning.specs.Patch.{IsBehindOnly}
use Rattle.eco_meaning.specs.Cost.{Weights, IsCandidate}
use Rattle.eco_meaning.specs.Report.{BaseSignal, TargetGroup, targets_in, base_in, signals_in, AreCandidates}
use Rattle.eco_pose.proofs.SideLaws.{split_at}
use Rattle.eco_progress.specs.Progress.{HaveCounts, report_over}

-- what two lists of groups tell, one after the other
pub targets_append : (xs ys : List TargetGroup) → targets_in (xs ++ ys) ≡ targets_in xs ++ targets_in ys
targets_append xs ys = map-append (λ (g : TargetGroup). g.target) xs ys

pub base_append : (xs ys : List TargetGroup) → base_in (xs ++ ys) ≡ base_in xs ++ base_in ys
base_append xs ys = flat_map-append (λ (g : TargetGroup). g.base) xs ys

pub signals_append : (xs ys : List TargetGroup) → signals_in (xs ++ ys) ≡ signals_in xs ++ signals_in ys
signals_append xs ys =
    ap (map (λ (b : BaseSignal). b.signal)) (base_append xs ys) ∙ map-append (λ (b : BaseSignal). b.signal) (base_in xs) (base_in ys)

-- a signal of groups is one of some group
pub group_of_signal : (groups : List TargetGroup) (name : List ℕ) → Contains (signals_in groups) name →
    (before : List TargetGroup) × (group : TargetGroup) × (behind : List TargetGroup) × (groups ≡ before ++ group ∷ behind) × Contains (signals_in (group ∷ [])) name
group_of_signal [] name among = absurd (Contains_none name among)
group_of_signal (g ∷ groups) name among =
    elim (Contains-append_cases (signals_in (g ∷ [])) (signals_in groups) name (subst (λ l. Contains l name) (signals_append (g ∷ []) groups) among)) [
      | inl here ↦ ([], g, groups, refl, here)
      | inr later ↦
          let (before, group, behind, same, found) = group_of_signal groups name later in
          (g ∷ before, group, behind, ap (λ l. g ∷ l) same, found)
    ]

-- a group stands in no empty list
pub no_group : {X : Type 0} (before : List X) (x : X) (behind : List X) → [] ≡ before ++ x ∷ behind → ⊥
no_group before x behind same =
    let none : 0 ≡ length (before ++ x ∷ behind) = ap length same in
    omega (arith, none, length-append before (x ∷ behind))

-- an element of a list with one more at its end stands in the list, or is the last one
pub split_push : {X : Type 0} (xs : List X) (x : X) (before : List X) (y : X) (behind : List X) → xs ++ x ∷ [] ≡ before ++ y ∷ behind →
    ((rest : List X) × (xs ≡ before ++ y ∷ rest)) ⊎ ((xs ≡ before) × (x ≡ y))
split_push [] x [] y behind same = inr (refl, cc)
split_push [] x (b ∷ before) y behind same =
    let count : 1 ≡ length (b ∷ (before ++ y ∷ behind)) = ap length same in
    absurd (omega (arith, count, length-append before (y ∷ behind)))
split_push (a ∷ xs) x [] y behind same = let heads : a ≡ y = cc in inl (xs, ap (λ z. z ∷ xs) heads)
split_push (a ∷ xs) x (b ∷ before) y behind same =
    let heads : a ≡ b = cc in
    let tails : xs ++ x ∷ [] ≡ before ++ y ∷ behind = cc in
    elim (split_push xs x before y behind tails) [
      | inl more ↦ inl (more.0, ap (λ z. z ∷ xs) heads ∙ ap (λ l. b ∷ l) more.1)
      | inr last ↦ inr (ap (λ z. z ∷ xs) heads ∙ ap (λ l. b ∷ l) last.0, last.1)
    ]

-- what holds of each group beside those before it, where there is one more
pub push_groups : (P : List TargetGroup → TargetGroup → Type 0) (groups : List TargetGroup) (group : TargetGroup) →
    ((before : List TargetGroup) (g : TargetGroup) (behind : List TargetGroup) → groups ≡ before ++ g ∷ behind → P before g) → P groups group →
    (before : List TargetGroup) (g : TargetGroup) (behind : List TargetGroup) → groups ++ group ∷ [] ≡ before ++ g ∷ behind → P before g
push_groups P groups group all last before g behind same =
    elim (split_push groups group before g behind same) [
      | inl more ↦ all before g more.0 more.1
      | inr end ↦ subst (λ x. P before x) end.1 (subst (λ l. P l group) end.0 last)
    ]

-- a candidate of a target is one of each later target
pub candidate_later : (f : Circuit) (w : Weights) (input_weight : ℕ) (earlier later : List (List ℕ)) (name : List ℕ) →
    ((target : List ℕ) → Contains earlier target → Contains later target) → IsCandidate f w input_weight earlier name → IsCandidate f w input_weight later name
candidate_later f w input_weight earlier later name more candidate = record {
  signal = candidate.signal;
  weighted = candidate.weighted;
  apart = λ target is fan. more target (candidate.apart target is fan);
}

module _ (f : Circuit) (w : Weights) (input_weight : ℕ) where
  -- the signals of all groups are candidates of the target that comes next
  pub paid_are_candidates : (groups : List TargetGroup) → AreCandidates f w input_weight (report_over groups) →
      All (IsCandidate f w input_weight (targets_in groups)) (signals_in groups)
  paid_are_candidates groups candidates =
      All_from_places (IsCandidate f w input_weight (targets_in groups)) (signals_in groups) (λ k name at.
      let (before, group, behind, same, among) = group_of_signal groups name (Contains_at (signals_in groups) k name at) in
      candidate_later f w input_weight (targets_in before) (targets_in groups) name
      (λ target early. subst (λ l. Contains l target) (sym (ap targets_in same ∙ targets_append before (group ∷ behind)))
      (Contains-append_left (targets_in before) (targets_in (group ∷ behind)) target early))
      (All-contains (IsCandidate f w input_weight (targets_in before)) (signals_in (group ∷ [])) name (candidates before group behind same) among))

  -- the first groups have candidates
  front_candidates : (groups before rest : List TargetGroup) → groups ≡ before ++ rest → AreCandidates f w input_weight (report_over groups) →
      AreCandidates f w input_weight (report_over before)
  front_candidates groups before rest is candidates b g h same =
      candidates b g (h ++ rest) (is ∙ ap (λ l. l ++ rest) same ∙ append_assoc b (g ∷ h) rest)

  -- the signals up to a group are candidates of its target
  upto_candidates : (groups before : List TargetGroup) (group : TargetGroup) (behind : List TargetGroup) → groups ≡ before ++ group ∷ behind → AreCandidates f w input_weight (report_over groups) →
      All (IsCandidate f w input_weight (targets_in before)) (signals_in (before ++ group ∷ []))
  upto_candidates groups before group behind same candidates =
      subst (All (IsCandidate f w input_weight (targets_in before))) (sym (signals_append before (group ∷ [])))
      (All-append (IsCandidate f w input_weight (targets_in before)) (signals_in before) (signals_in (group ∷ []))
      (paid_are_candidates before (front_candidates groups before (group ∷ behind) same candidates))
      (candidates before group behind same))

  -- what a target may read lies behind no target but those before it
  pub reads_earlier : (groups : List TargetGroup) (counts : List ℕ) (targets rest : List (List ℕ)) → AreCandidates f w input_weight (report_over groups) →
      HaveCounts groups counts → length counts ≡ length groups → targets ≡ targets_in groups ++ rest → (k count place : ℕ) (name : List ℕ) →
      slice_get counts k ≡ Some count → place < count → slice_get (signals_in groups) place ≡ Some name → IsBehindOnly f (take k targets) name
  reads_earlier groups counts targets rest candidates have long are k count place name at_count within at =
      let (before, group, behind, same, len) = split_at k groups (omega (arith, slice_get_within counts k count at_count, long)) in
      let first = before ++ group ∷ [] in
      let counted : count ≡ length (signals_in first) = same_Some count (length (signals_in first)) (sym at_count ∙ ap (slice_get counts) (sym len) ∙ have before group behind same) in
      let parts : signals_in groups ≡ signals_in first ++ signals_in behind = ap signals_in (same ∙ sym (append_assoc before (group ∷ []) behind)) ∙ signals_append first behind in
      let there : slice_get (signals_in first) place ≡ Some name =
      sym (slice_get-front (signals_in first) (signals_in behind) place (omega (arith, counted, within)))
      ∙ ap (λ l. slice_get l place) (sym parts) ∙ at in
      let candidate = All_at (IsCandidate f w input_weight (targets_in before)) (signals_in first) place name (upto_candidates groups before group behind same candidates) there in
      let count_before : length (targets_in before) ≡ k = length-map before (λ (g : TargetGroup). g.target) ∙ len in
      let front : take k targets ≡ targets_in before =
      ap (λ n. take n targets) (sym count_before)
      ∙ ap (take (length (targets_in before))) (are ∙ ap (λ l. l ++ rest) (ap targets_in same ∙ targets_append before (group ∷ behind)) ∙ append_assoc (targets_in before) (targets_in (group ∷ behind)) rest)
      ∙ take-append_seam (targets_in before) (targets_in (group ∷ behind) ++ rest) in
      subst (λ l. IsBehindOnly f l name) (sym front) candidate.apart

-- the counts with one more group
pub counts_push : (groups : List TargetGroup) (group : TargetGroup) (counts : List ℕ) (count : ℕ) → HaveCounts groups counts → length counts ≡ length groups →
    count ≡ length (signals_in (groups ++ group ∷ [])) → HaveCounts (groups ++ group ∷ []) (counts ++ count ∷ [])
counts_push groups group counts count have long is =
    push_groups (λ before g. slice_get (counts ++ count ∷ []) (length before) ≡ Some (length (signals_in (before ++ g ∷ [])))) groups group
    (λ before g behind same. slice_get-append_left counts (count ∷ []) (length before) (length (signals_in (before ++ g ∷ []))) (have before g behind same))
    (ap (slice_get (counts ++ count ∷ [])) (sym long) ∙ slice_get-push_last counts count ∙ ap Some is)
