-- Targets by the numbers in their names.
use Rattle.std.proofs.Common.{◌≡◌, ◌⊎◌, ℕ, ◌+◌, ◌<◌, Bool, true, false, not, ◌&&◌, cond, List, [], length, Some, ap, ◌∙◌, sym, subst, arith, inl, inr, nat_lt}
use Rattle.std.specs.Prelude.{option_map}
use Rattle.std.specs.List.Sorted.{IsStrictlyIncreasing}
use Rattle.std.specs.BTreeMap.{BTreeMap, IsOrdered, Updates, get, values, keys, is_at}
use Rattle.std.specs.List.{IsDistinct, slice_get}
use Rattle.std.specs.Ordering.{nat_cmp}
use Rattle.std.specs.Cmp.{Equal-is}
use Rattle.std.specs.Str.{bytes_eq}
use Rattle.std.proofs.lemmas.Bool.{false≢true, cases_Bool, cases_lt}
use Rattle.std.proofs.lemmas.Cmp.{nat_cmp_total}
use Rattle.std.proofs.lemmas.Map.Entries.{btree_map_get_place, place_from_lookup}
use Rattle.std.proofs.lemmas.Map.Keys.{IsStrictlyIncreasing-from_sorted}
use Rattle.std.proofs.lemmas.Map.Lookups.{exact_unsigned}
use Rattle.std.proofs.lemmas.Option.{get_or_from_slice_get, slice_get-get_or, slice_get_within, slice_get-map, same_Some}
use Rattle.eco_lists.proofs.Tests.{both}
use Rattle.eco_lists.proofs.Members.{map-map}
use Rattle.eco_meaning.specs.Names.{is_target_text, target_number}
use Rattle.eco_gates.specs.declared.gate.NetId.{NetId}
use Rattle.eco_netlist.specs.Netlists.{name_at}
use Rattle.eco_netlist.specs.Targets.{HasTargets, AreFree}
use Rattle.eco_netlist.specs.declared.draft.TargetRule.{TargetRule}
use Rattle.eco_netlist.specs.declared.tally.Tally.{Tally}
use Rattle.eco_netlist.specs.Draft.{allows}
use Rattle.eco_netlist.specs.Tallies.{is_free}
use Rattle.eco_lists.proofs.Places.{Contains_at, All_from_places, map_agree}
use Rattle.eco_netlist.proofs.NameLemmas.{one_place, unmapped}
use Rattle.eco_netlist.proofs.NumeralLemmas.{same_target}

-- equal by the order is equal
same_number : (a b : ℕ) → is_at (nat_cmp a) b ≡ true → a ≡ b
same_number a b e = exact_unsigned a b ((Equal-is (nat_cmp a b)).0 e)

-- the next net is no target
pub target_kept : (free : List ℕ → Bool) (list : List (List ℕ)) (k : ℕ) (name : List ℕ) (m : BTreeMap ℕ NetId) → slice_get list k ≡ Some name → free name ≡ false → HasTargets free list k m → HasTargets free list (k + 1) m
target_kept free list k name m at fails has = record {
  ordered = has.ordered;
  below = λ number net found. let b : net.0 < k = has.below number net found in omega arith;
  sound = has.sound;
  numbered = has.numbered;
  complete = λ j before passes.
      elim (cases_lt j k) [
        | inl less ↦ has.complete j less passes
        | inr last ↦
            let here : j ≡ k = omega arith in
            let is : name_at list j ≡ name = ap (name_at list) here ∙ get_or_from_slice_get list k name [] at in
            absurd (false≢true (sym fails ∙ ap free (sym is) ∙ passes))
      ];
}

-- what a map has after an insert
after_insert : (m n : BTreeMap ℕ NetId) (t : ℕ) (w : NetId) → Updates nat_cmp m n t (Some w) → (number : ℕ) (net : NetId) → get nat_cmp n number ≡ Some net → ((t ≡ number) × (w ≡ net)) ⊎ (get nat_cmp m number ≡ Some net)
after_insert m n t w updates number net found =
    elim (cases_Bool (is_at (nat_cmp t) number)) [
      | inl same ↦ inl (
        same_number t number same,
        same_Some w net (ap (λ b. cond b (Some w) (get nat_cmp m number)) (sym same) ∙ sym (updates.0 number) ∙ found),
      )
      | inr apart ↦ inr (ap (λ b. cond b (Some w) (get nat_cmp m number)) (sym apart) ∙ sym (updates.0 number) ∙ found)
    ]

-- the next net is a target
pub target_put : (free : List ℕ → Bool) → ((name : List ℕ) → free name ≡ true → is_target_text name ≡ true) → (list : List (List ℕ)) (k : ℕ) (name : List ℕ) (m n : BTreeMap ℕ NetId) → IsDistinct bytes_eq list → slice_get list k ≡ Some name → free name ≡ true → Updates nat_cmp m n (target_number name) (Some (record { 0 = k })) → IsOrdered nat_cmp n → HasTargets free list k m → HasTargets free list (k + 1) n
target_put free texts list k name m n distinct at passes updates ordered has =
    let name_is : name_at list k ≡ name = get_or_from_slice_get list k name [] at in
    record {
      ordered = ordered;
      below = λ number net found.
          elim (after_insert m n (target_number name) (record { 0 = k }) updates number net found) [
            | inl new ↦ let same : k ≡ net.0 = ap (λ (x : NetId). x.0) new.1 in omega arith
            | inr old ↦ let b : net.0 < k = has.below number net old in omega arith
          ];
      sound = λ number net found.
          elim (after_insert m n (target_number name) (record { 0 = k }) updates number net found) [
            | inl new ↦ ap (λ (x : NetId). free (name_at list x.0)) (sym new.1) ∙ ap free name_is ∙ passes
            | inr old ↦ has.sound number net old
          ];
      numbered = λ number net found.
          elim (after_insert m n (target_number name) (record { 0 = k }) updates number net found) [
            | inl new ↦ ap (λ (x : NetId). target_number (name_at list x.0)) (sym new.1) ∙ ap target_number name_is ∙ new.0
            | inr old ↦ has.numbered number net old
          ];
      complete = λ j before passes_j.
          elim (cases_lt j k) [
            | inl less ↦ elim (cases_Bool (is_at (nat_cmp (target_number name)) (target_number (name_at list j)))) [
              | inl same ↦
                  let equal : name ≡ name_at list j =
                  same_target name (name_at list j) (texts name passes) (texts (name_at list j) passes_j) (same_number (target_number name) (target_number (name_at list j)) same) in
                  let at_j : slice_get list j ≡ Some name = slice_get-get_or list j [] (let w : k < length list = slice_get_within list k name at in omega arith) ∙ ap (λ x. Some x) (sym equal) in
                  let clash : j ≡ k = one_place list j k name distinct at_j at in
                  absurd (omega arith)
              | inr apart ↦ updates.0 (target_number (name_at list j)) ∙ ap (λ b. cond b (Some (record { 0 = k })) (get nat_cmp m (target_number (name_at list j)))) apart ∙ has.complete j less passes_j
            ]
            | inr last ↦
                let here : k ≡ j = omega arith in
                subst (λ (i : ℕ). get nat_cmp n (target_number (name_at list i)) ≡ Some (record { 0 = i })) here
                (ap (λ x. get nat_cmp n (target_number x)) name_is ∙ updates.1)
          ];
    }

-- what the map's values are
value_at : (m : BTreeMap ℕ NetId) (i : ℕ) (net : NetId) → IsOrdered nat_cmp m → slice_get (values m) i ≡ Some net → (number : ℕ) × (slice_get m.entries i ≡ Some (number, net)) × (get nat_cmp m number ≡ Some net)
value_at m i net ordered at =
    let found = unmapped (λ (e : ℕ × NetId). e.1) m.entries i net at in
    let entry : slice_get m.entries i ≡ Some (found.0.0, net) = found.1 ∙ ap (λ x. Some (found.0.0, x)) found.2 in
    (found.0.0, entry, btree_map_get_place nat_cmp_total m i found.0.0 net ordered entry)

-- the values of a map of all targets are the targets in order
pub free_values : (free : List ℕ → Bool) (list : List (List ℕ)) (m : BTreeMap ℕ NetId) → HasTargets free list (length list) m → AreFree free list (values m)
free_values free list m has = record {
  within = All_from_places (λ net. net.0 < length list) (values m) (λ i net at.
      let found = value_at m i net has.ordered at in
      has.below found.0 net found.2);
  ordered =
      subst (λ (xs : List ℕ). IsStrictlyIncreasing xs)
      (sym (map-map (λ (net : NetId). name_at list net.0) target_number (values m)
      ∙ map-map (λ (e : ℕ × NetId). e.1) (λ (net : NetId). target_number (name_at list net.0)) m.entries
      ∙ map_agree (λ (e : ℕ × NetId). target_number (name_at list e.1.0)) (λ (e : ℕ × NetId). e.0) m.entries (λ i e at.
      has.numbered e.0 e.1 (btree_map_get_place nat_cmp_total m i e.0 e.1 has.ordered at))))
      (IsStrictlyIncreasing-from_sorted (keys m) has.ordered);
  sound = All_from_places (λ net. free (name_at list net.0) ≡ true) (values m) (λ i net at.
      let found = value_at m i net has.ordered at in
      has.sound found.0 net found.2);
  complete = λ k within passes.
      let found = place_from_lookup (is_at (nat_cmp (target_number (name_at list k)))) m.entries (record { 0 = k }) (has.complete k within passes) in
      Contains_at (values m) found.0 (record { 0 = k })
      (slice_get-map (λ (e : ℕ × NetId). e.1) m.entries found.0 ∙ ap (option_map (λ (e : ℕ × NetId). e.1)) found.2);
}

-- a target's name has the form of one
pub free_text : (rule : TargetRule) (name : List ℕ) (t : Tally) → is_free rule name t ≡ true → is_target_text name ≡ true
free_text rule name t e =
    let outer = both (allows rule && is_target_text name && not (nat_lt 0 t.inputs)) (not (nat_lt 0 t.drivers)) e in
    let middle = both (allows rule && is_target_text name) (not (nat_lt 0 t.inputs)) outer.0 in
    (both (allows rule) (is_target_text name) middle.0).1
