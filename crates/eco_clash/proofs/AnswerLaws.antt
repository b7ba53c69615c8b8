-- What each patch costs at least whose signals lie behind no target but those before the last one, each answer costs at least.
use Rattle.std.proofs.Common.{◌≡◌, inl, inr, ℕ, ◌<◌, List, [], ◌∷◌, ◌++◌, Some, map, refl, sym, ◌∙◌, ap, subst, arith}
use Rattle.std.specs.List.{All, AllPairs, Contains}
use Rattle.std.proofs.lemmas.List.{append_assoc, append-nil, map-append}
use Rattle.std.proofs.lemmas.List.Kept.{AllPairs-from_increasing}
use Rattle.std.proofs.lemmas.List.Elements.{All-contains, All-nil, All-append, All-head, All-tail, Contains-append_left, Contains-append_right, Contains-append_cases}
use Rattle.eco_lists.proofs.Members.{Contains_first, Contains_cases, Contains_none, Contains-map, only_one, AllPairs-head, AllPairs-tail}
use Rattle.eco_lists.proofs.Places.{All_from_places, All_at}
use Rattle.eco_meaning.specs.Names.{target_number}
use Rattle.eco_meaning.specs.Circuit.{Circuit, IsTarget, AreTargets}
use Rattle.eco_meaning.specs.Cost.{Weights, weight_of, IsCandidate}
use Rattle.eco_meaning.specs.Bound.{Weigh}
use Rattle.eco_meaning.specs.Report.{BaseSignal, TargetGroup, PatchReport, AreCandidates, base_in, base_of, cost_of, signals_in, signals_of, targets_in, targets_of}
use Rattle.eco_clash.specs.Costs.{AnswersCostAtLeast}

-- of targets in order, one before another has the lesser number
less_before : (front : List (List ℕ)) (next : List ℕ) (behind : List (List ℕ)) (target : List ℕ) → AllPairs (λ a b. a < b) (map target_number (front ++ next ∷ behind)) → Contains front target → target_number target < target_number next
less_before [] next behind target pairs c = absurd (Contains_none target c)
less_before (first ∷ front) next behind target pairs c =
    let rest = map target_number (front ++ next ∷ behind) in
    elim (Contains_cases first target front c) [
      | inl here ↦
          let among : Contains rest (target_number next) = Contains-map target_number (front ++ next ∷ behind) next (Contains-append_right front (next ∷ behind) next (Contains_first next behind)) in
          subst (λ name. target_number name < target_number next) here (AllPairs-head (λ a b. a < b) (target_number first) rest pairs (target_number next) among)
      | inr later ↦ less_before front next behind target (AllPairs-tail (λ a b. a < b) (target_number first) rest pairs) later
    ]

module _ (f : Circuit) (earlier : List (List ℕ)) (last : List ℕ) (are : AreTargets f (earlier ++ last ∷ [])) where
  -- a target before another one isn't the last
  before_last : (front : List (List ℕ)) (next : List ℕ) (behind : List (List ℕ)) → AreTargets f (front ++ next ∷ behind) → (target : List ℕ) → Contains front target → Contains earlier target
  before_last front next behind others target c =
      let less = less_before front next behind target (AllPairs-from_increasing (map target_number (front ++ next ∷ behind)) others.ordered) c in
      let up_to_last : (name : List ℕ) → Contains earlier name → target_number name < target_number last = λ name c. less_before earlier last [] name (AllPairs-from_increasing (map target_number (earlier ++ last ∷ [])) are.ordered) c in
      elim (Contains-append_cases earlier (last ∷ []) target (all_targets target (Contains-append_left front (next ∷ behind) target c))) [
        | inl is ↦ is
        | inr here ↦
            let same = ap target_number (only_one last target here) in
            elim (Contains-append_cases earlier (last ∷ []) next (all_targets next (Contains-append_right front (next ∷ behind) next (Contains_first next behind)))) [
              | inl is ↦ absurd (omega (arith, less, same, up_to_last next is))
              | inr there ↦ absurd (omega (arith, less, same, ap target_number (only_one last next there)))
            ]
      ]
    where
      all_targets : (name : List ℕ) → Contains (front ++ next ∷ behind) name → Contains (earlier ++ last ∷ []) name
      all_targets name c = are.complete name (All-contains (IsTarget f) (front ++ next ∷ behind) name others.sound c)

  module _ (w : Weights) (input_weight : ℕ) (r : PatchReport) (targets : AreTargets f (targets_of r)) (candidates : AreCandidates f w input_weight r) where
    -- the signals of a target are candidates of the last one
    group_candidates : (before : List TargetGroup) (group : TargetGroup) (behind : List TargetGroup) → r.groups ≡ before ++ group ∷ behind → All (IsCandidate f w input_weight earlier) (signals_in (group ∷ []))
    group_candidates before group behind cut =
        let others : AreTargets f (targets_in before ++ group.target ∷ targets_in behind) = subst (AreTargets f) (ap targets_in cut ∙ map-append (λ (g : TargetGroup). g.target) before (group ∷ behind)) targets in
        All_from_places (IsCandidate f w input_weight earlier) (signals_in (group ∷ [])) (λ k name at.
        let is = All_at (IsCandidate f w input_weight (targets_in before)) (signals_in (group ∷ [])) k name (candidates before group behind cut) at in
        record {
          signal = is.signal;
          weighted = is.weighted;
          apart = λ target is_target fan. before_last (targets_in before) group.target (targets_in behind) others target (is.apart target is_target fan);
        })

    signals_cons : (group : TargetGroup) (rest : List TargetGroup) → signals_in (group ∷ rest) ≡ signals_in (group ∷ []) ++ signals_in rest
    signals_cons group rest =
        map-append (λ (b : BaseSignal). b.signal) group.base (base_in rest)
        ∙ ap (λ base. map (λ (b : BaseSignal). b.signal) base ++ signals_in rest) (sym (append-nil group.base))

    -- group by group, all are
    go_on : (before rest : List TargetGroup) → r.groups ≡ before ++ rest → All (IsCandidate f w input_weight earlier) (signals_in rest)
    go_on before [] cut = All-nil (IsCandidate f w input_weight earlier)
    go_on before (group ∷ rest) cut =
        subst (All (IsCandidate f w input_weight earlier)) (sym (signals_cons group rest))
        (All-append (IsCandidate f w input_weight earlier) (signals_in (group ∷ [])) (signals_in rest)
        (group_candidates before group rest cut)
        (go_on (before ++ group ∷ []) rest (cut ∙ sym (append_assoc before (group ∷ []) rest))))

    all_candidates : All (IsCandidate f w input_weight earlier) (signals_of r)
    all_candidates = go_on [] r.groups refl

-- signals weigh what is reported
weigh_base : (f : Circuit) (w : Weights) (input_weight : ℕ) (base : List BaseSignal) → All (λ b. weight_of f w input_weight b.signal ≡ Some b.weight) base → Weigh f w input_weight (map (λ b. b.signal) base) (cost_of base)
weigh_base f w input_weight [] weights = refl
weigh_base f w input_weight (b ∷ base) weights = (
  b.weight,
  cost_of base,
  All-head (λ b. weight_of f w input_weight b.signal ≡ Some b.weight) b base weights,
  weigh_base f w input_weight base (All-tail (λ b. weight_of f w input_weight b.signal ≡ Some b.weight) b base weights),
  refl,
)

pub answers_cost_at_least : AnswersCostAtLeast
answers_cost_at_least f goal w input_weight earlier last least are bound p out r sound meets =
    let reported = meets.reported in
    let candidates = all_candidates f earlier last are w input_weight r reported.targets reported.candidates in
    let below = bound p out (cost_of (base_of r)) sound meets.patched (subst (All (IsCandidate f w input_weight earlier)) (sym reported.inputs) candidates)
    (subst (λ names. Weigh f w input_weight names (cost_of (base_of r))) (sym reported.inputs) (weigh_base f w input_weight (base_of r) reported.weights)) in
    omega (arith, below, reported.cost)
