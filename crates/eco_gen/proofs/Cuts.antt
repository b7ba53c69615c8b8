-- Which gates are cut: each target cuts a gate of its own.
use Rattle.std.proofs.Common.{◌≡◌, ℕ, ◌+◌, ◌*◌, ◌/◌, ◌<◌, ◌≤◌, inl, inr, Bool, true, false, cond, Some, None, length, get_or, refl, sym, ap, ◌∙◌, arith}
use Rattle.std.specs.Prelude.{◌==◌, nat_lt}
use Rattle.std.specs.List.{position_or_len, range_with_len}
use Rattle.std.proofs.Math.Nat.{div-lt_iff_lt-mul}
use Rattle.std.proofs.lemmas.Bool.{eq-eqb, eqb-true, ne_eqb, lt-ltb, le-ltb, cases_order}
use Rattle.std.proofs.lemmas.List.FromFn.{get_or-range_with_len, length-range_with_len}
use Rattle.std.proofs.lemmas.List.Quantifiers.{position-Some}
use Rattle.std.proofs.lemmas.List.Sums.{position_or_len_is}
use Rattle.eco_gen.specs.Drawn.{cut_gate, target_at}

-- a later target cuts a later gate
cut_rises : (size targets i j : ℕ) → targets ≤ size → 0 < targets → i < j → cut_gate size targets i < cut_gate size targets j
cut_rises size targets i j room some lt =
    let more : (i + 1) * size ≤ j * size = grind arith in
    let spread : (i + 1) * size ≡ i * size + size = omega arith in
    (div-lt_iff_lt-mul {k = targets} {x = i * size} {y = j * size / targets} some).1
    (let rest : j * size < j * size / targets * targets + targets = omega arith in omega (arith, more, spread, rest, room))

-- and a gate that is there
pub cut_within : (size targets i : ℕ) → targets ≤ size → i < targets → cut_gate size targets i < size
cut_within size targets i room lt =
    let more : (i + 1) * size ≤ targets * size = grind arith in
    let spread : (i + 1) * size ≡ i * size + size = omega arith in
    (div-lt_iff_lt-mul {k = targets} {x = i * size} {y = size} (omega arith)).1 (omega (arith, more, spread, lt, room))

pub cut_once : (size targets i j : ℕ) → targets ≤ size → 0 < targets → cut_gate size targets i ≡ cut_gate size targets j → i ≡ j
cut_once size targets i j room some same =
    elim (cases_order i j) [
      | inl e ↦ e
      | inr o ↦ elim o [
        | inl lt ↦ absurd (let rises = cut_rises size targets i j room some lt in omega (arith, rises, same))
        | inr gt ↦ absurd (let rises = cut_rises size targets j i room some gt in omega (arith, rises, same))
      ]
    ]

-- the target that cuts a gate is one, and cuts it
pub target_cuts : (size targets j i : ℕ) → target_at size targets j ≡ Some i → (i < targets) × (cut_gate size targets i ≡ j)
unfolding target_at
target_cuts size targets j i e =
    let found = position-Some (λ k. cut_gate size targets k == j) (range_with_len 0 targets) i 0 e in
    let below : i < targets = omega (arith, found.0, length-range_with_len 0 targets) in
    let at : get_or (range_with_len 0 targets) i 0 ≡ i = get_or-range_with_len 0 targets i 0 below ∙ omega arith in
    (below, ap (cut_gate size targets) (sym at) ∙ eqb-true (cut_gate size targets (get_or (range_with_len 0 targets) i 0)) j found.1)

-- the first target at which a gate is met is the one that cuts it
pub target_found : (size targets j i : ℕ) → i < targets → ((k : ℕ) → k < i → (cut_gate size targets k == j) ≡ false) → cut_gate size targets i ≡ j → target_at size targets j ≡ Some i
unfolding target_at
target_found size targets j i lt before here =
    let test : ℕ → Bool = λ k. cut_gate size targets k == j in
    let long = length-range_with_len 0 targets in
    let at : position_or_len test (range_with_len 0 targets) ≡ i =
    position_or_len_is test (range_with_len 0 targets) i 0 (omega (arith, long, lt))
    (λ k below. ap test (get_or-range_with_len 0 targets k 0 (omega arith) ∙ omega arith) ∙ before k below)
    (λ _. ap test (get_or-range_with_len 0 targets i 0 lt ∙ omega arith) ∙ eq-eqb (cut_gate size targets i) j here) in
    let within : nat_lt i (length (range_with_len 0 targets)) ≡ true = lt-ltb i (length (range_with_len 0 targets)) (omega (arith, long, lt)) in
    ap (λ k. cond (nat_lt k (length (range_with_len 0 targets))) (Some k) None) at ∙ ap (λ b. cond b (Some i) None) within

pub target_of_cut : (size targets i : ℕ) → targets ≤ size → i < targets → target_at size targets (cut_gate size targets i) ≡ Some i
target_of_cut size targets i room lt =
    target_found size targets (cut_gate size targets i) i lt
    (λ k below. ne_eqb (cut_gate size targets k) (cut_gate size targets i) (λ same. let e = cut_once size targets k i room (omega arith) same in omega (arith, below, e)))
    refl

-- no target cuts a gate that none of them meets
pub target_missing : (size targets j : ℕ) → ((k : ℕ) → k < targets → (cut_gate size targets k == j) ≡ false) → target_at size targets j ≡ None
unfolding target_at
target_missing size targets j never =
    let test : ℕ → Bool = λ k. cut_gate size targets k == j in
    let long = length-range_with_len 0 targets in
    let at : position_or_len test (range_with_len 0 targets) ≡ targets =
    position_or_len_is test (range_with_len 0 targets) targets 0 (omega (arith, long))
    (λ k below. ap test (get_or-range_with_len 0 targets k 0 below ∙ omega arith) ∙ never k below)
    (λ within. absurd (omega (arith, within, long))) in
    let outside : nat_lt targets (length (range_with_len 0 targets)) ≡ false = le-ltb targets (length (range_with_len 0 targets)) (omega (arith, long)) in
    ap (λ k. cond (nat_lt k (length (range_with_len 0 targets))) (Some k) None) at ∙ ap (λ b. cond b (Some targets) None) outside

-- without a target no gate is cut
pub none_cut : (size j : ℕ) → target_at size 0 j ≡ None
none_cut size j = target_missing size 0 j (λ k lt. absurd (omega arith))
