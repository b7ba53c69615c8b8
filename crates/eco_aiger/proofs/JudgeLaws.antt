-- What is defined twice, and what is missing.
use Rattle.std.proofs.Common.{◌≡◌, inl, inr, ℕ, ◌+◌, ◌<◌, Bool, true, false, ◌&&◌, ◌||◌, not, cond, Option, Some, None, MatchOption, Result, Ok, Err, IfErr, OnOk, List, [], ◌∷◌, ◌++◌, length, get_or, take, filter, refl, sym, ap, subst, ◌∙◌, arith}
use Rattle.std.specs.Prelude.{nat_eq, nat_le, count_by, fold, ◌==◌}
use Rattle.std.proofs.lemmas.Bool.{eqb-true, eq-eqb, leb-true, leb-false, le-leb, lt-leb, false≢true, or_left, or_right, or_cases}
use Rattle.std.proofs.lemmas.List.{take_more}
use Rattle.std.proofs.lemmas.List.Sums.{sum_by_push}
use Rattle.std.proofs.Math.Bool.{or_assoc, or-false}
use Rattle.indexmap.specs.IndexSet.{insert_all}
use Rattle.eco_aiger.specs.declared.error.AigerError.{AigerError}
use Rattle.eco_aiger.specs.declared.error.AigerError.TheVariants.{Line, DefinedTwice, Undefined, Refused, OutOfMemory}
use Rattle.eco_aiger.specs.Syntax.{File}
use Rattle.eco_aiger.specs.Defined.{is_twice, is_in, is_missing, IsLeast, NeverPasses, IsDefinedOnce}
use Rattle.eco_aiger.specs.Judging.{lesser, is_unknown, least_unknown, RefusesUse}
use Rattle.eco_aiger.specs.Texts.{RefusesFile}
use Rattle.eco_aiger.proofs.SetLaws.{in_set, counted, uncounted, cond_one, cond_none}

-- the least number that passes the test, where one does
abbrev pub Found : (ℕ → Bool) → Option ℕ → Type 0
Found p o = MatchOption o (NeverPasses p) (IsLeast p)

-- two tests that agree
found_same : (p q : ℕ → Bool) (o : Option ℕ) → ((u : ℕ) → q u ≡ p u) → Found p o → Found q o
found_same p q None same h = λ u. same u ∙ h u
found_same p q (Some v) same h = record {
  passes = same v ∙ h.passes;
  none_less = λ u e. h.none_less u (sym (same u) ∙ e);
}

-- a test that one number more passes
found_more : (p q : ℕ → Bool) (x : ℕ) (o : Option ℕ) → ((u : ℕ) → q u ≡ (p u || nat_eq u x)) → Found p o → Found q (lesser o x)
found_more p q x None same h = record {
  passes = same x ∙ or_right (p x) (nat_eq x x) (eq-eqb x x refl);
  none_less = λ u e. elim (or_cases (p u) (nat_eq u x) (sym (same u) ∙ e)) [
    | inl old ↦ absurd (false≢true (sym (h u) ∙ old))
    | inr new ↦ let is = eqb-true u x new in omega arith
  ];
}
found_more p q x (Some v) same h = by (nat_le v x) refl
  where
    by : (b : Bool) → nat_le v x ≡ b → Found q (cond b (Some v) (Some x))
    by true e = record {
      passes = same v ∙ or_left (p v) (nat_eq v x) h.passes;
      none_less = λ u t. elim (or_cases (p u) (nat_eq u x) (sym (same u) ∙ t)) [
        | inl old ↦ h.none_less u old
        | inr new ↦
            let is = eqb-true u x new in
            let le = leb-true v x e in
            omega arith
      ];
    }
    by false e = record {
      passes = same x ∙ or_right (p x) (nat_eq x x) (eq-eqb x x refl);
      none_less = λ u t. elim (or_cases (p u) (nat_eq u x) (sym (same u) ∙ t)) [
        | inl old ↦
            let le = h.none_less u old in
            let lt = leb-false v x e in
            omega arith
        | inr new ↦ let is = eqb-true u x new in omega arith
      ];
    }

-- one number more that stood before
twice_again : (xs : List ℕ) (x u : ℕ) → is_in xs x ≡ true → is_twice (xs ++ x ∷ []) u ≡ (is_twice xs u || nat_eq u x)
twice_again xs x u old = by (nat_eq u x) refl
  where
    by : (b : Bool) → nat_eq u x ≡ b → is_twice (xs ++ x ∷ []) u ≡ (is_twice xs u || b)
    by true e =
        let more = sum_by_push (λ y. cond (nat_eq u y) 1 0) xs x in
        let one = cond_one (nat_eq u x) e in
        let some = counted xs u (subst (λ y. is_in xs y ≡ true) (sym (eqb-true u x e)) old) in
        le-leb 2 (count_by (nat_eq u) (xs ++ x ∷ [])) (omega arith) ∙ sym (or_right (is_twice xs u) true refl)
    by false e =
        let more = sum_by_push (λ y. cond (nat_eq u y) 1 0) xs x in
        let none = cond_none (nat_eq u x) e in
        let same : count_by (nat_eq u) (xs ++ x ∷ []) ≡ count_by (nat_eq u) xs = omega arith in
        ap (nat_le 2) same ∙ sym (or-false (is_twice xs u))

-- one number more that didn't
twice_new : (xs : List ℕ) (x u : ℕ) → is_in xs x ≡ false → is_twice (xs ++ x ∷ []) u ≡ is_twice xs u
twice_new xs x u new = by (nat_eq u x) refl
  where
    by : (b : Bool) → nat_eq u x ≡ b → is_twice (xs ++ x ∷ []) u ≡ is_twice xs u
    by true e =
        let more = sum_by_push (λ y. cond (nat_eq u y) 1 0) xs x in
        let one = cond_one (nat_eq u x) e in
        let none = uncounted xs u (subst (λ y. is_in xs y ≡ false) (sym (eqb-true u x e)) new) in
        lt-leb 2 (count_by (nat_eq u) (xs ++ x ∷ [])) (omega arith) ∙ sym (lt-leb 2 (count_by (nat_eq u) xs) (omega arith))
    by false e =
        let more = sum_by_push (λ y. cond (nat_eq u y) 1 0) xs x in
        let none = cond_none (nat_eq u x) e in
        let same : count_by (nat_eq u) (xs ++ x ∷ []) ≡ count_by (nat_eq u) xs = omega arith in
        ap (nat_le 2) same

-- the next number of a list, where it was seen
pub twice_then : (list : List ℕ) (k d : ℕ) (seen : List ℕ) (least : Option ℕ) → k < length list → seen ≡ insert_all nat_eq [] (take k list) → is_in seen (get_or list k d) ≡ true → Found (is_twice (take k list)) least → Found (is_twice (take (k + 1) list)) (lesser least (get_or list k d))
twice_then list k d seen least lt is old h =
    let x = get_or list k d in
    let here : is_in (take k list) x ≡ true = sym (in_set (take k list) x) ∙ ap (λ keys. is_in keys x) (sym is) ∙ old in
    found_more (is_twice (take k list)) (is_twice (take (k + 1) list)) x least
    (λ u. ap (λ l. is_twice l u) (take_more list k d lt) ∙ twice_again (take k list) x u here) h

-- and where it was not
pub twice_else : (list : List ℕ) (k d : ℕ) (seen : List ℕ) (least : Option ℕ) → k < length list → seen ≡ insert_all nat_eq [] (take k list) → is_in seen (get_or list k d) ≡ false → Found (is_twice (take k list)) least → Found (is_twice (take (k + 1) list)) least
twice_else list k d seen least lt is new h =
    let x = get_or list k d in
    let here : is_in (take k list) x ≡ false = sym (in_set (take k list) x) ∙ ap (λ keys. is_in keys x) (sym is) ∙ new in
    found_same (is_twice (take k list)) (is_twice (take (k + 1) list)) least
    (λ u. ap (λ l. is_twice l u) (take_more list k d lt) ∙ twice_new (take k list) x u here) h

-- the least of a list
least_fold : (xs : List ℕ) (p : ℕ → Bool) (o : Option ℕ) → Found p o → Found (λ u. p u || is_in xs u) (fold lesser o xs)
least_fold [] p o h = found_same p (λ u. p u || false) o (λ u. or-false (p u)) h
least_fold (x ∷ xs) p o h =
    found_same (λ u. (p u || nat_eq u x) || is_in xs u) (λ u. p u || is_in (x ∷ xs) u) (fold lesser (lesser o x) xs) (λ u. sym (or_assoc (p u) (nat_eq u x) (is_in xs u)))
    (least_fold xs (λ u. p u || nat_eq u x) (lesser o x) (found_more p (λ u. p u || nat_eq u x) x o (λ u. refl) h))

-- what passes a test and is in a list
in_filter : (p : ℕ → Bool) (xs : List ℕ) (u : ℕ) → is_in (filter p xs) u ≡ (p u && is_in xs u)
in_filter p [] u = none (p u)
  where
    none : (b : Bool) → false ≡ (b && false)
    none true = refl
    none false = refl
in_filter p (x ∷ xs) u = by (p x) refl (nat_eq u x) refl (in_filter p xs u)
  where
    both_false : (b c : Bool) → b ≡ false → (b && c) ≡ (b && true)
    both_false true c e = absurd (false≢true (sym e))
    both_false false c e = refl

    by : (b : Bool) → p x ≡ b → (t : Bool) → nat_eq u x ≡ t → is_in (filter p xs) u ≡ (p u && is_in xs u) → is_in (cond b (x ∷ filter p xs) (filter p xs)) u ≡ (p u && (t || is_in xs u))
    by true e true f rest =
        let yes : p u ≡ true = ap p (eqb-true u x f) ∙ e in
        ap (λ t. t || is_in (filter p xs) u) f ∙ sym (ap (λ b. b && true) yes)
    by true e false f rest = ap (λ t. t || is_in (filter p xs) u) f ∙ rest
    by false e true f rest =
        let no : p u ≡ false = ap p (eqb-true u x f) ∙ e in
        rest ∙ both_false (p u) (is_in xs u) no
    by false e false f rest = rest

shuffle : (a b c : Bool) → ((a && b) && c) ≡ ((a && c) && b)
shuffle true true true = refl
shuffle true true false = refl
shuffle true false true = refl
shuffle true false false = refl
shuffle false b c = refl

-- the least variable that is missing
pub missing_found : (defined used known : List ℕ) → known ≡ insert_all nat_eq [] defined → Found (is_missing defined used) (least_unknown known used)
missing_found defined used known is =
    let same : (u : ℕ) → is_in known u ≡ is_in defined u = λ u. ap (λ keys. is_in keys u) is ∙ in_set defined u in
    found_same (λ u. false || is_in (filter (is_unknown known) used) u) (is_missing defined used) (least_unknown known used)
    (λ u.
    sym (in_filter (is_unknown known) used u
    ∙ ap (λ b. (not (u == 0) && not b) && is_in used u) (same u)
    ∙ shuffle (not (u == 0)) (not (is_in defined u)) (is_in used u)))
    (least_fold (filter (is_unknown known) used) (λ u. false) None (λ u. refl))

-- what is refused for its uses is refused, where each variable is defined once
pub fault_of_use : (f : File) {T : Type 0} (r : Result T AigerError) → IsDefinedOnce f → IfErr r (RefusesUse f) → IfErr r (RefusesFile f)
fault_of_use f (Ok x) once h = tt
fault_of_use f (Err (Line n)) once h = h
fault_of_use f (Err (DefinedTwice v)) once h = absurd h
fault_of_use f (Err (Undefined v)) once h = (once, h)
fault_of_use f (Err (Refused refusal)) once h = absurd h
fault_of_use f (Err OutOfMemory) once h = tt

-- what is so is so of any result
pub known_of_ok : {T E P : Type 0} (r : Result T E) → P → OnOk r P
known_of_ok (Ok x) p = p
known_of_ok (Err e) p = tt
