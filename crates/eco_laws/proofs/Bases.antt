-- There is only one greedy base.
use Rattle.std.proofs.Common.{◌≡◌, inl, inr, ℕ, zero, suc, ◌<◌, List, Some, sym, ◌∙◌, ap, subst, arith}
use Rattle.std.specs.List.{slice_get, AllPairs, Contains}
use Rattle.std.specs.Ordering.{ordering_reverse}
use Rattle.std.specs.declared.cmp.Ordering.TheVariants.{Less, Greater}
use Rattle.std.proofs.lemmas.Cmp.{nat_list_cmp_total}
use Rattle.std.proofs.lemmas.List.Elements.{All-contains}
use Rattle.eco_lists.proofs.Places.{place_of, Contains_at}
use Rattle.eco_meaning.specs.Circuit.{Circuit}
use Rattle.eco_meaning.specs.Meaning.{Goal}
use Rattle.eco_meaning.specs.Cost.{Weights, GoesBefore, IsUnpaid, AreTurns}
use Rattle.eco_meaning.specs.Choice.{Suffices, Precedes, IsLeft, IsGreedy}
use Rattle.eco_laws.proofs.Orders.{same_lists, one_place}
use Rattle.eco_laws.proofs.Members.{cases_member}
use Rattle.eco_laws.specs.Bases.{HasOneGreedyBase}

-- of two signals one goes before the other at most
pub one_way : (f : Circuit) (w : Weights) (input_weight : ℕ) (a b : List ℕ) → GoesBefore f w input_weight a b → GoesBefore f w input_weight b a → ⊥
one_way f w input_weight a b first second =
    let of_a : Some first.heavy ≡ Some second.light = sym first.weight_first ∙ second.weight_second in
    let of_b : Some first.light ≡ Some second.heavy = sym first.weight_second ∙ second.weight_first in
    let same_a : first.heavy ≡ second.light = cc of_a in
    let same_b : first.light ≡ second.heavy = cc of_b in
    elim first.order [
      | inl less ↦ elim second.order [ inl more ↦ omega arith | inr tie ↦ omega (arith, tie.0) ]
      | inr tie ↦ elim second.order [
        | inl more ↦ omega (arith, tie.0)
        | inr other ↦
            let clash : Less ≡ Greater = sym tie.1 ∙ nat_list_cmp_total.antisymm b a ∙ ap ordering_reverse other.1 in
            cc
      ]
    ]

-- the turns are one list
pub same_turns : (f : Circuit) (w : Weights) (input_weight : ℕ) (earlier paid turns others : List (List ℕ)) → AreTurns f w input_weight earlier paid turns → AreTurns f w input_weight earlier paid others → turns ≡ others
same_turns f w input_weight earlier paid turns others are too =
    same_lists (GoesBefore f w input_weight) (one_way f w input_weight) turns others are.ordered too.ordered
    (λ name c. too.complete name (All-contains (IsUnpaid f w input_weight earlier paid) turns name are.sound c))
    (λ name c. are.complete name (All-contains (IsUnpaid f w input_weight earlier paid) others name too.sound c))

-- more signals suffice where fewer do
pub more_suffice : (f : Circuit) (goal : Goal) (p : Circuit) (earlier : List (List ℕ)) (target : List ℕ) (Fewer More : List ℕ → Type 0) → ((name : List ℕ) → Fewer name → More name) → Suffices f goal p earlier target Fewer → Suffices f goal p earlier target More
more_suffice f goal p earlier target Fewer More within enough x y conflict =
    enough x y record {
      one = conflict.one;
      zero = conflict.zero;
      alike = λ v u at_x at_y name is. conflict.alike v u at_x at_y name (within name is);
    }

module _ (f : Circuit) (goal : Goal) (w : Weights) (input_weight : ℕ) (p : Circuit) (earlier : List (List ℕ)) (target : List ℕ) (paid turns : List (List ℕ)) (ordered : AllPairs (GoesBefore f w input_weight) turns) where
  -- what one greedy choice keeps at a turn below the number, each other one keeps
  kept_below : (n i : ℕ) → i < n → (name : List ℕ) → slice_get turns i ≡ Some name → (kept other : List (List ℕ)) → IsGreedy f goal p earlier target paid turns kept → IsGreedy f goal p earlier target paid turns other → Contains kept name → Contains other name
  kept_below zero i below name at kept other is too has = absurd (omega arith)
  kept_below (suc n) i below name at kept other is too has =
      elim (cases_member other name) [
        | inl there ↦ there
        | inr none ↦
            let suffices = too.dropped name (Contains_at turns i name at) none in
            absurd (All-contains (λ name. Suffices f goal p earlier target (IsLeft paid turns kept name) → ⊥) kept name is.needed has
            (more_suffice f goal p earlier target (IsLeft paid turns other name) (IsLeft paid turns kept name) (λ signal left. elim left [
              | inl is_paid ↦ inl is_paid
              | inr rest ↦ elim rest [
                | inr later ↦ inr (inr later)
                | inl before ↦
                    let stands = before.1 in
                    let here : stands.1 ≡ i = one_place (GoesBefore f w input_weight) (one_way f w input_weight) turns stands.1 i name ordered stands.4 at in
                    inr (inl (kept_below n stands.0 (omega (arith, here, stands.2, below)) signal stands.3 other kept too is before.0, before.1))
              ]
            ]) suffices))
      ]

  kept_by_all : (kept other : List (List ℕ)) → IsGreedy f goal p earlier target paid turns kept → IsGreedy f goal p earlier target paid turns other → (name : List ℕ) → Contains kept name → Contains other name
  kept_by_all kept other is too name has =
      let place = place_of turns name (All-contains (Contains turns) kept name is.members has) in
      kept_below (suc place.0) place.0 (omega arith) name place.1 kept other is too has

  -- of two signals one stands before the other at most
  stands_one_way : (a b : List ℕ) → Precedes turns a b → Precedes turns b a → ⊥
  stands_one_way a b first second =
      let same_a : first.0 ≡ second.1 = one_place (GoesBefore f w input_weight) (one_way f w input_weight) turns first.0 second.1 a ordered first.3 second.4 in
      let same_b : first.1 ≡ second.0 = one_place (GoesBefore f w input_weight) (one_way f w input_weight) turns first.1 second.0 b ordered first.4 second.3 in
      omega (arith, same_a, same_b, first.2, second.2)

  pub one_choice : (kept other : List (List ℕ)) → IsGreedy f goal p earlier target paid turns kept → IsGreedy f goal p earlier target paid turns other → kept ≡ other
  one_choice kept other is too =
      same_lists (Precedes turns) stands_one_way kept other is.ordered too.ordered (kept_by_all kept other is too) (kept_by_all other kept too is)

-- there is one greedy base at most
pub one_greedy_base : HasOneGreedyBase
one_greedy_base f goal w input_weight p earlier target paid kept other is too =
    let same = same_turns f w input_weight earlier paid is.turns too.turns is.are_turns too.are_turns in
    one_choice f goal w input_weight p earlier target paid too.turns too.are_turns.ordered kept other
    (subst (λ turns. IsGreedy f goal p earlier target paid turns kept) same is.chosen) too.chosen
