-- One gate alone, and the word of its net.
use Rattle.std.proofs.Common.{◌≡◌, ℕ, zero, suc, ◌+◌, ◌<◌, ◌%◌, Bool, false, not, cond, eqb, List, [], ◌∷◌, Some, length, set, get_or, bit_xor, refl, sym, ◌∙◌, ap, subst, arith}
use Rattle.std.specs.Int.{bit_at}
use Rattle.std.specs.List.{slice_get, slice_index_or, Contains}
use Rattle.std.proofs.lemmas.List.{length-map, get_or-map, get_or-set_same, set-set}
use Rattle.std.proofs.lemmas.List.Elements.{All-cons, All-nil}
use Rattle.std.proofs.lemmas.Nat.Bits.{bit_at_xor, bit_at-lt}
use Rattle.eco_lists.proofs.Members.{Contains_first}
use Rattle.eco_gates.specs.declared.gate.Term.TheVariants.{Net}
use Rattle.eco_gates.specs.GateValue.{GateValue}
use Rattle.eco_gates.specs.Gates.{IsGateWithin, IsWithin, IsOnceDriven, ReadsOut}
use Rattle.eco_gates.specs.Evaluation.{gate_value, IsConsistentAt, AgreeUndriven}
use Rattle.eco_gates.specs.Ordering.{IsOrder}
use Rattle.eco_gates.specs.Words.{is_set, lane}
use Rattle.eco_gates.proofs.Running.{IsRunTo, run_more, run_all, consistent_unique}
use Rattle.eco_gates.proofs.WordLemmas.{lane-set}
use Rattle.eco_lanes.specs.Turning.{turned_gate}
use Rattle.eco_lanes.proofs.Opposites.{turned_value}

-- a gate that doesn't read its own net has an order
pub order_of_one : (g : GateValue) → (Contains g.ins (Net g.out) → ⊥) → IsOrder (g ∷ []) (0 ∷ [])
order_of_one g apart = record {
  numbers = All-cons (λ i. i < 1) 0 [] (omega arith) (All-nil (λ i. i < 1));
  complete = λ i below. let first : 0 ≡ i = omega (arith, below) in subst (Contains (0 ∷ [])) first (Contains_first 0 []);
  once = λ i j d less within. absurd (omega arith);
  behind = λ k i j at reads. absurd (apart (itself j i reads));
}
  where
    only : (k : ℕ) (h : GateValue) → slice_get (g ∷ []) k ≡ Some h → g ≡ h
    only zero h at = cc at
    only (suc k) h at = cc at

    itself : (j i : ℕ) → ReadsOut (g ∷ []) j i → Contains g.ins (Net g.out)
    itself j i reads =
        subst (λ (h : GateValue). Contains g.ins (Net h.out)) (sym (only j reads.driver reads.driver_at))
        (subst (λ (h : GateValue). Contains h.ins (Net reads.driver.out)) (sym (only i reads.reader reads.reader_at)) reads.reads)

pub once_of_one : (g : GateValue) → IsOnceDriven (g ∷ [])
once_of_one g i j d less within = absurd (omega arith)

pub within_one : (nets : ℕ) (g : GateValue) → IsGateWithin nets g → IsWithin nets (g ∷ [])
within_one nets g within = All-cons (IsGateWithin nets) g [] within (All-nil (IsGateWithin nets))

-- consistent bits of one gate are the old ones with its value
pub one_filled : (g : GateValue) (old new : List Bool) → IsGateWithin (length old) g → (Contains g.ins (Net g.out) → ⊥) → length new ≡ length old → IsConsistentAt (g ∷ []) new → AgreeUndriven (g ∷ []) new old → new ≡ set old g.out.0 (gate_value old g)
one_filled g old new within apart same consistent kept =
    let order = order_of_one g apart in
    let none : IsRunTo (g ∷ []) (0 ∷ []) old 0 old = record {
      len = refl;
      settled = λ m i h less. absurd (omega arith);
      kept = λ net free. refl;
    } in
    let run = run_more (g ∷ []) (0 ∷ []) old old 0 0 g (within_one (length old) g within) (once_of_one g) order refl refl none in
    consistent_unique (g ∷ []) (0 ∷ []) new (set old g.out.0 (gate_value old g)) order (same ∙ sym run.len) consistent
    (run_all (g ∷ []) (0 ∷ []) old (set old g.out.0 (gate_value old g)) 1 order (omega arith) run)
    (λ net free. kept net free ∙ sym (run.kept net free))

-- a bit of a word is turned by a bit of another
turn_two : (x y : ℕ) → x < 2 → y < 2 → eqb ((x + y) % 2) 1 ≡ cond (eqb y 1) (not (eqb x 1)) (eqb x 1)
turn_two zero zero _ _ = refl
turn_two zero (suc zero) _ _ = refl
turn_two (suc zero) zero _ _ = refl
turn_two (suc zero) (suc zero) _ _ = refl
turn_two (suc (suc x)) y a b = absurd (omega arith)
turn_two zero (suc (suc y)) a b = absurd (omega arith)
turn_two (suc zero) (suc (suc y)) a b = absurd (omega arith)

turned_bit : (word turn place : ℕ) → is_set (bit_xor word turn) place ≡ cond (is_set turn place) (not (is_set word place)) (is_set word place)
turned_bit word turn place =
    ap (λ x. eqb x 1) (bit_at_xor word turn place) ∙ turn_two (bit_at word place) (bit_at turn place) (bit_at-lt word place) (bit_at-lt turn place)

-- the words with the net's word turned
pub turned_lane : (old mid turns : List ℕ) (g : GateValue) (place : ℕ) → length turns ≡ length mid → length old ≡ length mid → g.out.0 < length old → lane mid place ≡ set (lane old place) g.out.0 (gate_value (lane old place) g) → lane (set mid g.out.0 (bit_xor (get_or mid g.out.0 0) (get_or turns g.out.0 0))) place ≡ set (lane old place) g.out.0 (gate_value (lane old place) (turned_gate (lane turns place) g))
turned_lane old mid turns g place same_turns same within filled =
    let net = g.out.0 in
    let values = lane old place in
    let bit = gate_value values g in
    let word = get_or mid net 0 in
    let turn = get_or turns net 0 in
    let room : net < length values = subst (λ n. net < n) (sym (length-map old (λ w. is_set w place))) within in
    let here : is_set word place ≡ bit =
    sym (get_or-map (λ w. is_set w place) mid net 0 false (omega (arith, within, same)))
    ∙ ap (λ bits. get_or bits net false) filled ∙ get_or-set_same values net bit false room in
    let by : slice_index_or (lane turns place) net false ≡ is_set turn place = get_or-map (λ w. is_set w place) turns net 0 false (omega (arith, within, same, same_turns)) in
    let value : is_set (bit_xor word turn) place ≡ gate_value values (turned_gate (lane turns place) g) =
    turned_bit word turn place ∙ ap (λ b. cond (is_set turn place) (not b) b) here
    ∙ ap (λ t. cond t (not bit) bit) (sym by) ∙ sym (turned_value (lane turns place) values g) in
    lane-set mid net (bit_xor word turn) place
    ∙ ap (λ bits. set bits net (is_set (bit_xor word turn) place)) filled
    ∙ set-set values net bit (is_set (bit_xor word turn) place)
    ∙ ap (set values net) value
