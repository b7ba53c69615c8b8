-- Literals: their bits, and what they are read from.
use Rattle.std.proofs.Common.{◌≡◌, ◌≢◌, ◌⊎◌, inl, inr, ℕ, zero, suc, ◌+◌, ◌-◌, ◌*◌, ◌/◌, ◌%◌, ◌<◌, ◌≤◌, Bool, true, false, not, ◌&&◌, ◌||◌, cond, Some, None, List, [], ◌∷◌, length, get_or, refl, sym, ap, subst, ◌∙◌, arith}
use Rattle.std.specs.Prelude.{nat_eq, nat_lt, position, ◌==◌}
use Rattle.std.specs.List.{position_or_len}
use Rattle.std.proofs.lemmas.Bool.{cases_eq, eq-eqb, ne_eqb, eqb-true, lt-ltb, le-ltb, ltb-true, true≢false, or_parts, and_parts, not-true, or_right}
use Rattle.eco_meaning.specs.declared.kind.Kind.TheVariants.{And}
use Rattle.eco_meaning.specs.declared.name.Operand.TheVariants.{Zero, One, Named}
use Rattle.eco_meaning.specs.Gates.{apply}
use Rattle.eco_aiger.specs.Defined.{is_in}
use Rattle.eco_aiger.specs.Meaning.{Naming, complement_name, net_name, is_complement, read_name, operand_of}
use Rattle.eco_aiger.specs.Maps.{literal_bit}
use Rattle.eco_aiger.proofs.SetLaws.{Apart}

-- a literal that is a constant, plain, or a complement
abbrev pub IsPlainLit : ℕ → Type 0
IsPlainLit l = (l % 2 ≡ 0) × (2 ≤ l)

abbrev pub IsOddLit : ℕ → Type 0
IsOddLit l = (l % 2 ≡ 1) × (3 ≤ l)

pub literal_cases : (l : ℕ) → (l ≡ 0) ⊎ ((l ≡ 1) ⊎ (IsPlainLit l ⊎ IsOddLit l))
literal_cases l =
    elim (cases_eq l 0) [
      | inl e ↦ inl e
      | inr some ↦ elim (cases_eq l 1) [
        | inl e ↦ inr (inl e)
        | inr more ↦ elim (cases_eq (l % 2) 0) [
          | inl even ↦ inr (inr (inl (even, omega arith)))
          | inr odd ↦ inr (inr (inr (omega arith, omega arith)))
        ]
      ]
    ]

-- whether a literal is a complement
pub complement_plain : (l : ℕ) → IsPlainLit l → is_complement l ≡ false
complement_plain l (even, some) = ap (λ b. b && not (l == 1)) (ne_eqb (l % 2) 1 (λ e. omega arith))

pub complement_odd : (l : ℕ) → IsOddLit l → is_complement l ≡ true
complement_odd l (odd, some) = ap (λ b. b && not (l == 1)) (eq-eqb (l % 2) 1 odd) ∙ ap (λ b. not b) (ne_eqb l 1 (λ e. omega arith))

pub odd_complement : (l : ℕ) → is_complement l ≡ true → IsOddLit l
odd_complement l e =
    let both = and_parts (l % 2 == 1) (not (l == 1)) e in
    let odd = eqb-true (l % 2) 1 both.0 in
    let ne : l ≢ 1 = λ is. true≢false (sym (eq-eqb l 1 is) ∙ not-true (l == 1) both.1) in
    (odd, omega arith)

-- what it is read from
pub operand_plain : (n : Naming) (l : ℕ) → IsPlainLit l → operand_of n l ≡ Named (net_name n l)
operand_plain n l (even, some) =
    ap (λ b. cond b Zero (cond (l == 1) One (Named (read_name n l)))) (ne_eqb l 0 (λ e. omega arith))
    ∙ ap (λ b. cond b One (Named (read_name n l))) (ne_eqb l 1 (λ e. omega arith))
    ∙ ap (λ b. Named (cond b (complement_name n l) (net_name n l))) (complement_plain l (even, some))

pub operand_odd : (n : Naming) (l : ℕ) → IsOddLit l → operand_of n l ≡ Named (complement_name n l)
operand_odd n l (odd, some) =
    ap (λ b. cond b Zero (cond (l == 1) One (Named (read_name n l)))) (ne_eqb l 0 (λ e. omega arith))
    ∙ ap (λ b. cond b One (Named (read_name n l))) (ne_eqb l 1 (λ e. omega arith))
    ∙ ap (λ b. Named (cond b (complement_name n l) (net_name n l))) (complement_odd l (odd, some))

-- its bit
pub bit_plain : (w : ℕ → Bool) (l : ℕ) → IsPlainLit l → literal_bit w l ≡ w (l / 2)
bit_plain w l (even, some) =
    ap (λ b. cond b (l == 1) (cond (l % 2 == 0) (w (l / 2)) (not (w (l / 2))))) (ne_eqb (l / 2) 0 (λ e. omega arith))
    ∙ ap (λ b. cond b (w (l / 2)) (not (w (l / 2)))) (eq-eqb (l % 2) 0 even)

pub bit_odd : (w : ℕ → Bool) (l : ℕ) → IsOddLit l → literal_bit w l ≡ not (w (l / 2))
bit_odd w l (odd, some) =
    ap (λ b. cond b (l == 1) (cond (l % 2 == 0) (w (l / 2)) (not (w (l / 2))))) (ne_eqb (l / 2) 0 (λ e. omega arith))
    ∙ ap (λ b. cond b (w (l / 2)) (not (w (l / 2)))) (ne_eqb (l % 2) 0 (λ e. omega arith))

-- the plain literal of a complement's variable
pub plain_below : (l : ℕ) → IsOddLit l → IsPlainLit (l - 1)
plain_below l (odd, some) = (omega arith, omega arith)

pub half_below : (l : ℕ) → IsOddLit l → (l - 1) / 2 ≡ l / 2
half_below l (odd, some) = omega arith

pub bit_below : (w : ℕ → Bool) (l : ℕ) → IsOddLit l → literal_bit w l ≡ not (literal_bit w (l - 1))
bit_below w l odd = bit_odd w l odd ∙ ap (λ b. not b) (ap w (sym (half_below l odd)) ∙ sym (bit_plain w (l - 1) (plain_below l odd)))

pub twice_half : (l : ℕ) → IsPlainLit l → 2 * (l / 2) ≡ l
twice_half l (even, some) = omega arith

-- an and of two
pub and_two : (a b : Bool) → apply And (a ∷ b ∷ []) ≡ (a && b)
and_two true true = refl
and_two true false = refl
and_two false true = refl
and_two false false = refl

-- a number that isn't there has no place
place_long : (xs : List ℕ) (x : ℕ) → is_in xs x ≡ false → position_or_len (nat_eq x) xs ≡ length xs
place_long [] x e = refl
place_long (y ∷ xs) x e =
    let both = or_parts (nat_eq x y) (is_in xs x) e in
    let rest = place_long xs x both.1 in
    ap (λ b. cond (not b) (1 + position_or_len (nat_eq x) xs) 0) both.0 ∙ omega arith

pub position_none : (xs : List ℕ) (x : ℕ) → is_in xs x ≡ false → position (nat_eq x) xs ≡ None
position_none xs x e =
    let n = position_or_len (nat_eq x) xs in
    ap (λ b. cond b (Some n) None) (le-ltb n (length xs) (let long = place_long xs x e in omega arith))

-- in a list without repeats each has its own place
place_at : (xs : List ℕ) (k d : ℕ) → Apart xs → k < length xs → position_or_len (nat_eq (get_or xs k d)) xs ≡ k
place_at [] k d apart lt = absurd (omega arith)
place_at (x ∷ xs) zero d apart lt = ap (λ b. cond (not b) (1 + position_or_len (nat_eq x) xs) 0) (eq-eqb x x refl)
place_at (x ∷ xs) (suc k) d apart lt =
    let y = get_or xs k d in
    let rest = place_at xs k d apart.1 (omega arith) in
    let ne : y ≢ x = λ e. true≢false (sym (here xs k d (omega arith)) ∙ ap (is_in xs) e ∙ apart.0) in
    ap (λ b. cond (not b) (1 + position_or_len (nat_eq y) xs) 0) (ne_eqb y x ne) ∙ omega arith
  where
    here : (xs : List ℕ) (k d : ℕ) → k < length xs → is_in xs (get_or xs k d) ≡ true
    here [] k d lt = absurd (omega arith)
    here (x ∷ xs) zero d lt = ap (λ b. b || is_in xs x) (eq-eqb x x refl)
    here (x ∷ xs) (suc k) d lt = or_right (nat_eq (get_or xs k d) x) (is_in xs (get_or xs k d)) (here xs k d (omega arith))

pub position_at : (xs : List ℕ) (k d : ℕ) → Apart xs → k < length xs → position (nat_eq (get_or xs k d)) xs ≡ Some k
position_at xs k d apart lt =
    let at = place_at xs k d apart lt in
    ap (λ n. cond (nat_lt n (length xs)) (Some n) None) at ∙ ap (λ b. cond b (Some k) None) (lt-ltb k (length xs) lt)

-- what stands at the place that a number has is the number
place_found : (xs : List ℕ) (x d : ℕ) → position_or_len (nat_eq x) xs < length xs → get_or xs (position_or_len (nat_eq x) xs) d ≡ x
place_found [] x d lt = absurd (omega arith)
place_found (y ∷ xs) x d lt = by (nat_eq x y) refl (place_found xs x d) lt
  where
    by : (b : Bool) → nat_eq x y ≡ b → (position_or_len (nat_eq x) xs < length xs → get_or xs (position_or_len (nat_eq x) xs) d ≡ x) → cond (not b) (1 + position_or_len (nat_eq x) xs) 0 < length (y ∷ xs) → get_or (y ∷ xs) (cond (not b) (1 + position_or_len (nat_eq x) xs) 0) d ≡ x
    by true e rest within = sym (eqb-true x y e)
    by false e rest within =
        let next : 1 + position_or_len (nat_eq x) xs ≡ suc (position_or_len (nat_eq x) xs) = omega arith in
        ap (λ k. get_or (y ∷ xs) k d) next ∙ rest (omega arith)

pub position_found : (xs : List ℕ) (x k d : ℕ) → position (nat_eq x) xs ≡ Some k → (k < length xs) × (get_or xs k d ≡ x)
position_found xs x k d e = by (nat_lt (position_or_len (nat_eq x) xs) (length xs)) refl e
  where
    by : (b : Bool) → nat_lt (position_or_len (nat_eq x) xs) (length xs) ≡ b → cond b (Some (position_or_len (nat_eq x) xs)) None ≡ Some k → (k < length xs) × (get_or xs k d ≡ x)
    by true lt f =
        let same : position_or_len (nat_eq x) xs ≡ k = cc f in
        let within = ltb-true (position_or_len (nat_eq x) xs) (length xs) lt in
        (subst (λ m. m < length xs) same within, subst (λ m. get_or xs m d ≡ x) same (place_found xs x d within))
    by false lt f = absurd (cc f)
