-- Lanes of words: what one more net leaves.
use Rattle.std.specs.Prelude.{◌↔◌}
use Rattle.std.proofs.Common.{◌≡◌, ◌≢◌, ℕ, zero, suc, ◌+◌, ◌<◌, ◌≤◌, ◌%◌, ◌*◌, ◌^◌, Bool, true, false, not, cond, eqb, List, [], ◌∷◌, ◌++◌, Some, length, map, replicate, set, take, get_or, min, bit_and, bit_or, inl, inr, refl, sym, ◌∙◌, ap, arith, w64, length-set}
use Rattle.std.specs.Int.{bit_at}
use Rattle.std.specs.List.{slice_get, AllPairs}
use Rattle.std.proofs.lemmas.Bool.{cases_eq, false≢true}
use Rattle.std.proofs.lemmas.List.{length-map, length-take, map_more, take_more, get_or-map, set-get_or, length-replicate, get_or-replicate}
use Rattle.std.proofs.lemmas.Nat.Bits.{bit_at_and, bit_at-lt, bit_at_set_same, bit_at_set_other, bit_at-zero}
use Rattle.std.proofs.lemmas.Option.{slice_get-get_or, same_Some}
use Rattle.eco_lists.proofs.Places.{slice_get-set_same, slice_get-set_other, pair_at}
use Rattle.eco_gates.specs.declared.gate.NetId.{NetId}
use Rattle.eco_gates.specs.Words.{is_set, lane}
use Rattle.eco_gates.proofs.WordLemmas.{lane-set}
use Rattle.eco_netlist.specs.Values.{HasInputBits}

-- the bit of one more input
pub input_more : (nets : ℕ) (inputs : List NetId) (input bits : List Bool) (k : ℕ) (net : NetId) (bit : Bool) → AllPairs (λ (a b : NetId). a.0 ≢ b.0) inputs → slice_get inputs k ≡ Some net → net.0 < nets → slice_get input k ≡ Some bit → HasInputBits nets inputs input k bits → HasInputBits nets inputs input (k + 1) (set bits net.0 bit)
input_more nets inputs input bits k net bit apart at room here has = record {
  len = length-set bits net.0 bit ∙ has.len;
  here = λ place other less there. elim (cases_eq place k) [
    | inl last ↦
        let same : other ≡ net = same_Some other net (sym there ∙ ap (slice_get inputs) last ∙ at) in
        ap (λ (n : NetId). slice_get (set bits net.0 bit) n.0) same ∙ slice_get-set_same bits net.0 bit (omega (arith, room, has.len))
        ∙ sym (ap (slice_get input) last ∙ here)
    | inr before ↦
        let earlier : place < k = omega (arith, less, before) in
        slice_get-set_other bits net.0 other.0 bit (pair_at (λ (a b : NetId). a.0 ≢ b.0) inputs place k other net apart earlier there at)
        ∙ has.here place other earlier there
  ];
  others = λ n below none.
      slice_get-set_other bits net.0 n bit (λ same. none k net (omega arith) at (sym same))
      ∙ has.others n below (λ place other less there. none place other (omega (arith, less)) there);
}

-- the lanes of the first nets have 1 there alone, and the others have none
pub record HasOneNets (count : ℕ) (nets : List NetId) (done : ℕ) (words : List ℕ) : Type 0 where
  pub len : length words ≡ count
  pub one : (place : ℕ) (net : NetId) → place < done → slice_get nets place ≡ Some net → lane words place ≡ set (replicate count false) net.0 true
  pub none : (place : ℕ) → done ≤ place → lane words place ≡ replicate count false

-- words of 0 have no bits
pub no_bits : (count place : ℕ) → lane (replicate count 0) place ≡ replicate count false
no_bits zero place = refl
no_bits (suc count) place = ap (λ bits. is_set 0 place ∷ bits) (no_bits count place) ∙ ap (λ x. eqb x 1 ∷ replicate count false) (bit_at-zero place)

-- one more net is turned in its lane
pub one_more : (count : ℕ) (nets : List NetId) (k : ℕ) (words : List ℕ) (net : NetId) → k < 64 → slice_get nets k ≡ Some net → net.0 < count → HasOneNets count nets k words → HasOneNets count nets (k + 1) (set words net.0 (bit_or (get_or words net.0 0) (1 * 2 ^ k % 2 ^ 64)))
one_more count nets k words net low at room has =
    let word = get_or words net.0 0 in
    let new = bit_or word (1 * 2 ^ k % 2 ^ 64) in
    let within : net.0 < length words = omega (arith, room, has.len) in
    let stays : (place : ℕ) → place ≢ k → lane (set words net.0 new) place ≡ lane words place = λ place other.
    lane-set words net.0 new place
    ∙ ap (set (lane words place) net.0) (ap (λ x. eqb x 1) (bit_at_set_other w64 word k low place other) ∙ sym (get_or-map (λ w. is_set w place) words net.0 0 false within))
    ∙ set-get_or (lane words place) net.0 false in
    record {
      len = length-set words net.0 new ∙ has.len;
      one = λ place other less there. elim (cases_eq place k) [
        | inl last ↦
            let same : other ≡ net = same_Some other net (sym there ∙ ap (slice_get nets) last ∙ at) in
            ap (lane (set words net.0 new)) last ∙ lane-set words net.0 new k
            ∙ ap (λ bits. set bits net.0 (is_set new k)) (has.none k (omega arith))
            ∙ ap (set (replicate count false) net.0) (ap (λ x. eqb x 1) (bit_at_set_same w64 word k low))
            ∙ ap (λ (n : NetId). set (replicate count false) n.0 true) (sym same)
        | inr before ↦ stays place before ∙ has.one place other (omega (arith, less, before)) there
      ];
      none = λ place from. stays place (λ same. omega (arith, from, same)) ∙ has.none place (omega (arith, from));
    }

-- the conjunction of words, by their bits
and_two : (x y : ℕ) → x < 2 → y < 2 → (eqb (min x y) 1 ≡ true → (eqb x 1 ≡ true) × (eqb y 1 ≡ true)) × (eqb x 1 ≡ true → eqb y 1 ≡ true → eqb (min x y) 1 ≡ true)
and_two zero zero _ _ = (λ e. absurd (false≢true e), λ e. absurd (false≢true e))
and_two zero (suc zero) _ _ = (λ e. absurd (false≢true e), λ e. absurd (false≢true e))
and_two zero (suc (suc y)) a b = absurd (omega arith)
and_two (suc zero) zero _ _ = (λ e. absurd (false≢true e), λ e f. f)
and_two (suc zero) (suc zero) _ _ = (λ e. (e, e), λ e f. e)
and_two (suc (suc x)) y a b = absurd (omega arith)
and_two (suc zero) (suc (suc y)) a b = absurd (omega arith)

-- a bit that agrees with a wanted one
agrees : (bit wanted : Bool) → (cond wanted bit (not bit) ≡ true → bit ≡ wanted) × (bit ≡ wanted → cond wanted bit (not bit) ≡ true)
agrees true true = (λ e. refl, λ e. refl)
agrees true false = (λ e. absurd (false≢true e), λ e. absurd (false≢true (sym e)))
agrees false true = (λ e. absurd (false≢true e), λ e. absurd (false≢true e))
agrees false false = (λ e. refl, λ e. refl)

-- lists with one more element at their ends are equal just if both parts are
push_same : (xs ys : List Bool) (x y : Bool) → length xs ≡ length ys → xs ++ x ∷ [] ≡ ys ++ y ∷ [] → (xs ≡ ys) × (x ≡ y)
push_same [] [] x y same e = (refl, cc e)
push_same [] (b ∷ ys) x y same e = absurd (omega (arith, same))
push_same (a ∷ xs) [] x y same e = absurd (omega (arith, same))
push_same (a ∷ xs) (b ∷ ys) x y same e =
    let head : a ≡ b = cc e in
    let tail : xs ++ x ∷ [] ≡ ys ++ y ∷ [] = cc e in
    let rest = push_same xs ys x y (omega (arith, same)) tail in
    (ap (λ z. z ∷ xs) head ∙ ap (λ zs. b ∷ zs) rest.0, rest.1)

-- one more output
pub wanted_more : (value : NetId → Bool) (outputs : List NetId) (wanted : List Bool) (k : ℕ) (d : NetId) (lanes word place : ℕ) → length outputs ≡ length wanted → k < length outputs →
    ((is_set lanes place ≡ true) ↔ (map value (take k outputs) ≡ take k wanted)) → is_set word place ≡ cond (get_or wanted k false) (value (get_or outputs k d)) (not (value (get_or outputs k d))) →
    (is_set (bit_and lanes word) place ≡ true) ↔ (map value (take (k + 1) outputs) ≡ take (k + 1) wanted)
wanted_more value outputs wanted k d lanes word place same within before here =
    let own = value (get_or outputs k d) in
    let bit = get_or wanted k false in
    let both = and_two (bit_at lanes place) (bit_at word place) (bit_at-lt lanes place) (bit_at-lt word place) in
    let read : bit_at (bit_and lanes word) place ≡ min (bit_at lanes place) (bit_at word place) = bit_at_and lanes word place in
    let front : map value (take (k + 1) outputs) ≡ map value (take k outputs) ++ own ∷ [] = map_more value outputs k d within in
    let back : take (k + 1) wanted ≡ take k wanted ++ bit ∷ [] = take_more wanted k false (omega (arith, within, same)) in
    let long : length (map value (take k outputs)) ≡ length (take k wanted) = length-map (take k outputs) value ∙ length-take k outputs ∙ ap (λ n. min k n) same ∙ sym (length-take k wanted) in (
      λ e.
          let (one, other) = both.0 (ap (λ x. eqb x 1) (sym read) ∙ e) in
          front ∙ ap (λ bits. bits ++ own ∷ []) (before.0 one)
          ∙ ap (λ b. take k wanted ++ b ∷ []) ((agrees own bit).0 (sym here ∙ other)) ∙ sym back,
      λ e.
          let (one, other) = push_same (map value (take k outputs)) (take k wanted) own bit long (sym front ∙ e ∙ back) in
          ap (λ x. eqb x 1) read ∙ both.1 (before.1 one) (here ∙ (agrees own bit).1 other),
    )

-- no input has its bit yet
pub no_input : (nets : ℕ) (inputs : List NetId) (input : List Bool) → HasInputBits nets inputs input 0 (replicate nets false)
no_input nets inputs input = record {
  len = length-replicate nets false;
  here = λ place net less. absurd (omega (arith, less));
  others = λ k below none.
      let within : k < length (replicate nets false) = rw (length-replicate nets false) below in
      slice_get-get_or (replicate nets false) k false within ∙ ap Some (get_or-replicate nets k false false below);
}

-- no net is turned yet
pub no_nets : (count : ℕ) (nets : List NetId) → HasOneNets count nets 0 (replicate count 0)
no_nets count nets = record {
  len = length-replicate count 0;
  one = λ place net less. absurd (omega (arith, less));
  none = λ place from. no_bits count place;
}
