-- Turns in their order.
use Rattle.std.proofs.Common.{◌≡◌, ◌⊎◌, ℕ, ◌<◌, Bool, true, false, List, [], ◌∷◌, Some, length, get_or, map, refl, sym, ◌∙◌, ap, subst, inl, inr, arith}
use Rattle.std.specs.List.{All, AllPairs, Contains, IsDistinct, slice_get}
use Rattle.std.specs.List.Sorted.{IsPermutation, IsSorted}
use Rattle.std.specs.Str.{bytes_eq}
use Rattle.std.specs.Cmp.{IsTotalOrder}
use Rattle.std.specs.Cmp.Lexicographic.{slice_cmp}
use Rattle.std.specs.Ordering.{nat_cmp, is_lt, is_eq, ordering_reverse, ordering_then}
use Rattle.std.specs.declared.cmp.Ordering.{Ordering}
use Rattle.std.specs.declared.cmp.Ordering.TheVariants.{Less, Equal, Greater}
use Rattle.std.proofs.lemmas.Bool.{true≢false, false_from_ne_true}
use Rattle.std.proofs.lemmas.Cmp.{nat_cmp_total, nat_list_cmp_total, back_total, on_total, then_total, ranked}
use Rattle.std.proofs.lemmas.List.{length-map, get_or-map}
use Rattle.std.proofs.lemmas.List.Elements.{All-head, All-map, All-tail}
use Rattle.std.proofs.lemmas.List.Sorted.{ranks_by, sorted_far, IsPermutation-map, All-permutation, Contains-permutation}
use Rattle.std.proofs.lemmas.Map.Keys.{apart_from_distinct, IsDistinct-IsPermutation}
use Rattle.std.proofs.lemmas.Map.Text.{is_eq-slice_cmp}
use Rattle.std.proofs.lemmas.Option.{get_or_from_slice_get, slice_get-get_or, slice_get_read, slice_get_within}
use Rattle.eco_lists.proofs.Names.{bytes_eq_equiv}
use Rattle.eco_lists.proofs.Members.{Contains-map}
use Rattle.eco_lists.proofs.Places.{any_default, place_of}
use Rattle.eco_gates.specs.declared.gate.NetId.{NetId}
use Rattle.eco_meaning.specs.Circuit.{Circuit, names}
use Rattle.eco_meaning.specs.Cost.{Weights, GoesBefore, IsUnpaid, AreTurns}
use Rattle.eco_meaning.specs.Patch.{OfTarget}
use Rattle.eco_gates.specs.Reach.{AreMarked}
use Rattle.eco_netlist.specs.Netlists.{name_at, names_at, AreNets, IsChecked}
use Rattle.eco_netlist.proofs.Spliced.{signal_net}
use Rattle.eco_query.proofs.Marks.{named_among}
use Rattle.eco_query.specs.declared.order.Turn.{Turn}
use Rattle.eco_query.specs.Candidates.{IsTurn, AreFirstTurns, names_in, turn_order}

-- the order of turns is total
pub turn_order_total : IsTotalOrder turn_order
turn_order_total =
    then_total (back_total (on_total (λ (turn : Turn). turn.weight) nat_cmp_total))
    (back_total (on_total (λ (turn : Turn). turn.name.now) nat_list_cmp_total))

-- names that don't rise and differ fall
falls_at : (a b : List ℕ) (o : Ordering) → slice_cmp nat_cmp a b ≡ o → is_lt o ≡ false → is_eq o ≡ false → slice_cmp nat_cmp b a ≡ Less
falls_at a b Less at not_less differ = absurd (true≢false not_less)
falls_at a b Equal at not_less differ = absurd (true≢false differ)
falls_at a b Greater at not_less differ = nat_list_cmp_total.antisymm b a ∙ ap ordering_reverse at

-- of two weights with different names, the first of which comes first
first_of_two : (heavy light : ℕ) (a b : List ℕ) (o : Ordering) → o ≡ nat_cmp heavy light → is_lt (ordering_then o (slice_cmp nat_cmp a b)) ≡ false → is_eq (slice_cmp nat_cmp a b) ≡ false → (light < heavy) ⊎ ((light ≡ heavy) × (slice_cmp nat_cmp b a ≡ Less))
first_of_two heavy light a b Less at not_less differ = absurd (true≢false not_less)
first_of_two heavy light a b Equal at not_less differ =
    inr (sym (ranked heavy light Equal at), falls_at a b (slice_cmp nat_cmp a b) refl not_less differ)
first_of_two heavy light a b Greater at not_less differ = inl (ranked heavy light Greater at)

module _ (f : Circuit) (w : Weights) (d i : ℕ) where
  -- of two turns that aren't out of order and have different names, the first goes before the second
  goes_before : (a b : Turn) → IsTurn f w d i a → IsTurn f w d i b → is_lt (turn_order b a) ≡ false → bytes_eq a.name.now b.name.now ≡ false → GoesBefore f w d a.name.now b.name.now
  goes_before a b is_a is_b ordered differ = record {
    heavy = a.weight;
    light = b.weight;
    weight_first = is_a.weighed;
    weight_second = is_b.weighed;
    order = first_of_two a.weight b.weight a.name.now b.name.now (nat_cmp a.weight b.weight) refl ordered
        (is_eq-slice_cmp a.name.now b.name.now ∙ differ);
  }

  -- the names of sorted turns go before each other
  names_ordered : (turns : List Turn) → All (IsTurn f w d i) turns → IsSorted turn_order turns → IsDistinct bytes_eq (names_in turns) → AllPairs (GoesBefore f w d) (names_in turns)
  names_ordered [] are sorted distinct k j e before within = absurd (omega arith)
  names_ordered (turn ∷ more) are sorted distinct k j e before within =
      let turns = turn ∷ more in
      let name : Turn → List ℕ = λ t. t.name.now in
      let count : length (names_in turns) ≡ length turns = length-map turns name in
      let a = get_or turns k turn in
      let b = get_or turns j turn in
      let name_a : get_or (names_in turns) k e ≡ a.name.now = get_or-map name turns k turn e (omega arith) in
      let name_b : get_or (names_in turns) j e ≡ b.name.now = get_or-map name turns j turn e (omega arith) in
      let differ : bytes_eq a.name.now b.name.now ≡ false =
      ap (λ x. bytes_eq x b.name.now) (sym name_a) ∙ ap (bytes_eq (get_or (names_in turns) k e)) (sym name_b)
      ∙ apart_from_distinct bytes_eq (names_in turns) k j e distinct before within in
      let ordered = sorted_far (λ x y. is_lt (turn_order x y)) (ranks_by turn_order_total (λ (t : Turn). t)) turns sorted k j turn (omega arith) (omega arith) in
      rw (name_a, name_b) (goes_before a b (are k turn (omega arith)) (are j turn (omega arith)) ordered differ)

  -- the names of the turns' nets are those of the turns
  named_by_net : (turns : List Turn) → All (IsTurn f w d i) turns → names_at (names f) (map (λ (t : Turn). t.net) turns) ≡ names_in turns
  named_by_net [] are = refl
  named_by_net (turn ∷ more) are =
      ap (λ n. n ∷ names_at (names f) (map (λ (t : Turn). t.net) more))
      (get_or_from_slice_get (names f) turn.net.0 turn.name.now [] (All-head (IsTurn f w d i) turn more are).named)
      ∙ ap (λ l. turn.name.now ∷ l) (named_by_net more (All-tail (IsTurn f w d i) turn more are))

  -- the nets of all turns in any order are nets
  pub are_nets : (marks : List Bool) (turns sorted : List Turn) (nets : List NetId) → AreFirstTurns f w d i marks (length (names f)) turns → IsPermutation turns sorted → nets ≡ map (λ (t : Turn). t.net) sorted → AreNets (names f) nets
  are_nets marks turns sorted nets are moved is =
      let below : Turn → Type 0 = λ t. t.net.0 < length (names f) in
      subst (AreNets (names f)) (sym is)
      (All-map (λ (net : NetId). net.0 < length (names f)) (λ (t : Turn). t.net) sorted (All-permutation below turns sorted moved are.first))

  -- a net that isn't marked is none of the paid ones
  unpaid_turn : (paid : List NetId) (marks : List Bool) (turn : Turn) → IsChecked f → AreNets (names f) paid → AreMarked (length (names f)) paid (length paid) marks → IsTurn f w d i turn → slice_get marks turn.net.0 ≡ Some false → Contains (names_at (names f) paid) turn.name.now → ⊥
  unpaid_turn paid marks turn checked paid_in are_marked is unmarked c =
      let within = slice_get_within (names f) turn.net.0 turn.name.now is.named in
      let named : turn.name.now ≡ name_at (names f) turn.net.0 = sym (get_or_from_slice_get (names f) turn.net.0 turn.name.now [] is.named) in
      let at = place_of paid turn.net (named_among (names f) paid turn.net checked.distinct paid_in within (subst (Contains (names_at (names f) paid)) named c)) in
      let marked = are_marked.complete at.0 turn.net (slice_get_within paid at.0 turn.net at.1) at.1 in
      let clash : Some false ≡ Some true = sym unmarked ∙ marked in
      cc

  -- a net whose name isn't paid has no mark
  unmarked_net : (paid : List NetId) (marks : List Bool) (net : ℕ) → AreMarked (length (names f)) paid (length paid) marks → net < length (names f) → (Contains (names_at (names f) paid) (name_at (names f) net) → ⊥) → slice_get marks net ≡ Some false
  unmarked_net paid marks net are_marked within unpaid =
      let len = are_marked.len in
      let place : slice_get marks net ≡ Some (get_or marks net false) = slice_get-get_or marks net false (omega arith) in
      let no : get_or marks net false ≡ false = false_from_ne_true (get_or marks net false) (λ yes.
      let id : NetId = record { 0 = net } in
      unpaid (Contains-map (λ (n : NetId). name_at (names f) n.0) paid id (are_marked.sound id (place ∙ ap Some yes)))) in
      place ∙ ap Some no

  -- all turns sorted are the candidates that aren't paid in the order of their turns
  pub are_turns : (paid : List NetId) (marks : List Bool) (turns sorted : List Turn) (nets : List NetId) → IsChecked f → AreNets (names f) paid → AreMarked (length (names f)) paid (length paid) marks → AreFirstTurns f w d i marks (length (names f)) turns → IsPermutation turns sorted → IsSorted turn_order sorted → nets ≡ map (λ (t : Turn). t.net) sorted → OfTarget f i (λ earlier target. AreTurns f w d earlier (names_at (names f) paid) (names_at (names f) nets))
  are_turns paid marks turns sorted nets checked paid_in are_marked are moved in_order is = λ before target behind targets place.
      let name : Turn → List ℕ = λ t. t.name.now in
      let paid_names = names_at (names f) paid in
      let sound = All-permutation (IsTurn f w d i) turns sorted moved are.sound in
      let unmarked = All-permutation (λ (t : Turn). slice_get marks t.net.0 ≡ Some false) turns sorted moved are.unmarked in
      let moved_names = IsPermutation-map name turns sorted moved in
      subst (AreTurns f w d before paid_names) (sym (ap (names_at (names f)) is ∙ named_by_net sorted sound)) record {
        sound = All-map (IsUnpaid f w d before paid_names) name sorted
            (λ k t within. record {
              candidate = (sound k t within).candidate before target behind targets place;
              unpaid = unpaid_turn paid marks (get_or sorted k t) checked paid_in are_marked (sound k t within) (unmarked k t within);
            });
        complete = λ other unpaid.
            let net = signal_net f checked other unpaid.candidate.signal in
            let at : name_at (names f) net.0 ≡ other = any_default (names f) net.0 [] other net.1 ∙ net.2 in
            Contains-permutation (names_in turns) (names_in sorted) other moved_names
            (are.complete net.0 other net.1 (slice_get_read (names f) (length (names f)) net.0 other refl net.1 (sym net.2))
            (unmarked_net paid marks net.0 are_marked net.1 (λ c. unpaid.unpaid (subst (Contains paid_names) at c)))
            before target behind targets place unpaid.candidate);
        ordered = names_ordered sorted sound in_order
            (IsDistinct-IsPermutation bytes_eq bytes_eq_equiv.symm (names_in turns) (names_in sorted) moved_names are.distinct);
      }
