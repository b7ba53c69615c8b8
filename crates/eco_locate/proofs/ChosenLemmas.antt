-- Nets that are cut together, and the others of each.
use Rattle.std.proofs.Common.{◌≡◌, ◌≢◌, ℕ, zero, suc, ◌+◌, ◌<◌, ◌≤◌, List, [], ◌∷◌, ◌++◌, Some, map, drop, take, length, inl, inr, refl, sym, ◌∙◌, ap, subst, arith, length-append}
use Rattle.std.proofs.lemmas.List.{length-map}
use Rattle.std.specs.List.{All, AllPairs, remove, slice_get}
use Rattle.std.proofs.lemmas.List.Edits.{length-remove}
use Rattle.std.proofs.lemmas.List.Elements.{All-append, All-drop, All-take}
use Rattle.std.proofs.lemmas.List.Quantifiers.{all_pairs_remove}
use Rattle.eco_lists.proofs.Places.{push_cases}
use Rattle.eco_meaning.specs.Circuit.{Circuit, IsDriven, names}
use Rattle.eco_meaning.specs.Meaning.{Goal}
use Rattle.eco_choices.specs.Choices.{IsChoice}
use Rattle.eco_choices.proofs.ChoiceLemmas.{wrong_but_none}
use Rattle.eco_gates.specs.declared.gate.NetId.{NetId}
use Rattle.eco_netlist.specs.Netlists.{name_at, names_at}
use Rattle.eco_change.specs.CutProblem.{CanBeCut}
use Rattle.eco_locate.specs.declared.choosing.Need.{Need}
use Rattle.eco_locate.specs.Chosen.{AreNeeds, TellsNeed}
use Rattle.eco_locate.specs.Comparing.{NoneIsWrong}

pub map_remove : {X Y : Type 0} (f : X → Y) (xs : List X) (k : ℕ) → map f (remove xs k) ≡ remove (map f xs) k
map_remove f [] zero = refl
map_remove f [] (suc k) = refl
map_remove f (x ∷ xs) zero = refl
map_remove f (x ∷ xs) (suc k) = ap (λ ys. f x ∷ ys) (map_remove f xs k)

-- without one of them nets can be cut too
pub others_can_be_cut : (f : Circuit) (nets others : List NetId) (k : ℕ) → others ≡ remove nets k → k < length nets → CanBeCut f nets → CanBeCut f others
others_can_be_cut f nets others k is less can = subst (CanBeCut f) (sym is) (record {
  within = all_left (λ net. net.0 < length (names f)) can.within;
  driven = all_left (λ net. IsDriven f (name_at (names f) net.0)) can.driven;
  once = subst (AllPairs (λ a b. a ≢ b)) (sym (map_remove (λ (net : NetId). name_at (names f) net.0) nets k))
      (all_pairs_remove (λ a b. a ≢ b) (names_at (names f) nets) k (omega (arith, less, length-map nets (λ net. name_at (names f) net.0))) can.once);
  few = omega (arith, can.few, length-remove nets k less);
})
  where
    all_left : (P : NetId → Type 0) → All P nets → All P (remove nets k)
    all_left P all = All-append P (take k nets) (drop (suc k) nets) (All-take P k nets all) (All-drop P (suc k) nets all)

-- one more net was asked about
pub needs_more : (f : Circuit) (goal : Goal) (limit : ℕ) (nets : List (List ℕ)) (count : ℕ) (before after : List Need) (need : Need) → after ≡ before ++ need ∷ [] → AreNeeds f goal limit nets count before → TellsNeed f goal limit (remove nets count) need → AreNeeds f goal limit nets (count + 1) after
needs_more f goal limit nets count before after need more are tells = subst (AreNeeds f goal limit nets (count + 1)) (sym more) (record {
  as_many = length-append before (need ∷ []) ∙ ap (λ n. n + 1) are.as_many;
  each = λ k other at.
      elim (push_cases before need k other at) [
        | inl old ↦ are.each k other old
        | inr (last, same) ↦
            subst (TellsNeed f goal limit (remove nets k)) (sym same)
            (subst (λ n. TellsNeed f goal limit (remove nets n) need) (sym (last ∙ are.as_many)) tells)
      ];
})

-- at first none was
pub no_needs : (f : Circuit) (goal : Goal) (limit : ℕ) (nets : List (List ℕ)) (needs : List Need) → needs ≡ [] → AreNeeds f goal limit nets 0 needs
no_needs f goal limit nets needs none = subst (AreNeeds f goal limit nets 0) (sym none) (record { as_many = refl; each = λ k need at. absurd (cc at) })

-- where nothing is wrong, no net is needed
pub none_needed : (f : Circuit) (goal : Goal) → NoneIsWrong f goal → IsChoice f goal []
none_needed f goal none x wrong = none x ((wrong_but_none f goal x).0 wrong)

-- the others' names are the names but one
pub others_named : (f : Circuit) (nets others : List NetId) (k : ℕ) → others ≡ remove nets k → names_at (names f) others ≡ remove (names_at (names f) nets) k
others_named f nets others k is = ap (names_at (names f)) is ∙ map_remove (λ (net : NetId). name_at (names f) net.0) nets k
