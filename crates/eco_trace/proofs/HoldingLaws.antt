-- When clauses hold, and what literals are read as.
use Rattle.std.proofs.Common.{◌≡◌, ℕ, zero, suc, ◌≤◌, ◌⊎◌, inl, inr, Bool, true, false, not, cond, List, [], ◌∷◌, get_or, refl, sym, ◌∙◌, ap, subst, arith}
use Rattle.std.specs.List.{All, AllZip}
use Rattle.std.proofs.lemmas.Bool.{true≢false, not-true}
use Rattle.std.proofs.lemmas.List.Elements.{All-nil, All-cons, All-head, All-tail, All-get_or, All-contains}
use Rattle.eco_lists.proofs.Places.{map_agree, All_at}
use Rattle.eco_lists.proofs.Tests.{same_sign, sign_true}
use Rattle.eco_trace.specs.declared.clause.Lit.{Lit}
use Rattle.eco_trace.specs.Clauses.{Valuation, IsTrueIn, HoldsIn, Satisfies, IsClauseOf, IsVarWithin, complement, truth, read}
use Rattle.eco_trace.specs.Adding.{equality}
use Rattle.eco_trace.proofs.ClauseLaws.{complement_read}

-- a clause of these literals holds where one of them is true
clause_holds : (v : Valuation) (lits clause : List Lit) → IsClauseOf lits clause → HoldsIn v lits → HoldsIn v clause
clause_holds v lits clause of h = let m = (of.members h.1).1 (h.0, h.2, h.3) in (m.0, h.1, m.1, m.2, h.4)

literals_hold : (v : Valuation) (lits clause : List Lit) → IsClauseOf lits clause → HoldsIn v clause → HoldsIn v lits
literals_hold v lits clause of h = let m = (of.members h.1).0 (h.0, h.2, h.3) in (m.0, h.1, m.1, m.2, h.4)

pub clauses_hold : (v : Valuation) (wanted made : List (List Lit)) → AllZip IsClauseOf wanted made → Satisfies v wanted → Satisfies v made
clauses_hold v [] [] zip h = h
clauses_hold v [] (c ∷ cs) zip h = absurd zip
clauses_hold v (w ∷ ws) [] zip h = absurd zip
clauses_hold v (w ∷ ws) (c ∷ cs) zip h =
    All-cons (HoldsIn v) c cs (clause_holds v w c zip.0 (All-head (HoldsIn v) w ws h)) (clauses_hold v ws cs zip.1 (All-tail (HoldsIn v) w ws h))

pub wanted_hold : (v : Valuation) (wanted made : List (List Lit)) → AllZip IsClauseOf wanted made → Satisfies v made → Satisfies v wanted
wanted_hold v [] [] zip h = h
wanted_hold v [] (c ∷ cs) zip h = absurd zip
wanted_hold v (w ∷ ws) [] zip h = absurd zip
wanted_hold v (w ∷ ws) (c ∷ cs) zip h =
    All-cons (HoldsIn v) w ws (literals_hold v w c zip.0 (All-head (HoldsIn v) c cs h)) (wanted_hold v ws cs zip.1 (All-tail (HoldsIn v) c cs h))

-- clauses of one, two and three literals
pub one_true : (v : Valuation) (l : Lit) → HoldsIn v (l ∷ []) → IsTrueIn v l
one_true v l (zero, x, lt, at, is) = subst (IsTrueIn v) (sym at) is
one_true v l (suc k, x, lt, at, is) = absurd (omega arith)

pub two_true : (v : Valuation) (l m : Lit) → HoldsIn v (l ∷ m ∷ []) → IsTrueIn v l ⊎ IsTrueIn v m
two_true v l m (zero, x, lt, at, is) = inl (subst (IsTrueIn v) (sym at) is)
two_true v l m (suc k, x, lt, at, is) = inr (one_true v m (k, x, omega arith, at, is))

pub three_true : (v : Valuation) (l m n : Lit) → HoldsIn v (l ∷ m ∷ n ∷ []) → IsTrueIn v l ⊎ (IsTrueIn v m ⊎ IsTrueIn v n)
three_true v l m n (zero, x, lt, at, is) = inl (subst (IsTrueIn v) (sym at) is)
three_true v l m n (suc k, x, lt, at, is) = inr (two_true v m n (k, x, omega arith, at, is))

pub head_true : (v : Valuation) (l : Lit) (rest : List Lit) → IsTrueIn v l → HoldsIn v (l ∷ rest)
head_true v l rest is = (0, l, omega arith, refl, is)

pub tail_true : (v : Valuation) (l : Lit) (rest : List Lit) → HoldsIn v rest → HoldsIn v (l ∷ rest)
tail_true v l rest h = (suc h.0, h.1, omega (arith, h.2), h.3, h.4)

-- a true literal is read as 1, and its complement as 0
pub true_read : (v : Valuation) (l : Lit) → IsTrueIn v l → truth v l ≡ true
true_read v l is = sign_true l.positive (v l.var.0) is

pub read_true : (v : Valuation) (l : Lit) → truth v l ≡ true → IsTrueIn v l
read_true v l is = sym (same_sign l.positive (v l.var.0) is)

-- bits are equal where each is 1 if the other is
pub same_bit : (p q : Bool) → (p ≡ false) ⊎ (q ≡ true) → (p ≡ true) ⊎ (q ≡ false) → p ≡ q
same_bit true q (inl e) two = absurd (true≢false e)
same_bit true q (inr e) two = sym e
same_bit false q one (inl e) = absurd (true≢false (sym e))
same_bit false q one (inr e) = sym e

-- the two clauses hold where the literals are read alike
pub equality_read : (v : Valuation) (a b : Lit) → Satisfies v (equality a b) → truth v a ≡ truth v b
equality_read v a b h =
    let one = complement a ∷ b ∷ [] in
    let two = a ∷ complement b ∷ [] in
    let last : Satisfies v (two ∷ []) = All-tail (HoldsIn v) one (two ∷ []) h in
    let first_holds = two_true v (complement a) b (All-head (HoldsIn v) one (two ∷ []) h) in
    let second_holds = two_true v a (complement b) (All-head (HoldsIn v) two [] last) in
    same_bit (truth v a) (truth v b)
    (elim first_holds [
      | inl e ↦ inl (not-true (truth v a) (sym (complement_read v a) ∙ true_read v (complement a) e))
      | inr e ↦ inr (true_read v b e)
    ])
    (elim second_holds [
      | inl e ↦ inl (true_read v a e)
      | inr e ↦ inr (not-true (truth v b) (sym (complement_read v b) ∙ true_read v (complement b) e))
    ])

pub read_equality : (v : Valuation) (a b : Lit) → truth v a ≡ truth v b → Satisfies v (equality a b)
read_equality v a b same = by (truth v a) refl
  where
    one : List Lit
    one = complement a ∷ b ∷ []

    two : List Lit
    two = a ∷ complement b ∷ []

    pair : HoldsIn v (complement a ∷ b ∷ []) → HoldsIn v (a ∷ complement b ∷ []) → Satisfies v (equality a b)
    pair first_holds second_holds =
        All-cons (HoldsIn v) (complement a ∷ b ∷ []) ((a ∷ complement b ∷ []) ∷ []) first_holds (All-cons (HoldsIn v) (a ∷ complement b ∷ []) [] second_holds (All-nil (HoldsIn v)))

    by : (bit : Bool) → truth v a ≡ bit → Satisfies v (equality a b)
    by true e =
        pair (tail_true v (complement a) (b ∷ []) (head_true v b [] (read_true v b (sym same ∙ e)))) (head_true v a (complement b ∷ []) (read_true v a e))
    by false e =
        pair (head_true v (complement a) (b ∷ []) (read_true v (complement a) (complement_read v a ∙ ap not e))) (tail_true v a (complement b ∷ []) (head_true v (complement b) [] (read_true v (complement b) (complement_read v b ∙ ap not (sym same ∙ e)))))

-- the valuations agree at the variables from 1 to n
abbrev pub AgreeUpTo : ℕ → Valuation → Valuation → Type 0
AgreeUpTo n v u = (x : ℕ) → 1 ≤ x → x ≤ n → v x ≡ u x

pub agree_read : (n : ℕ) (v u : Valuation) (lits : List Lit) → All (IsVarWithin n) lits → AgreeUpTo n v u → read v lits ≡ read u lits
agree_read n v u lits within same =
    map_agree (truth v) (truth u) lits (λ k l at.
    let h = All_at (IsVarWithin n) lits k l within at in
    ap (λ x. cond l.positive x (not x)) (same l.var.0 h.first h.last))

agree_holds : (n : ℕ) (v u : Valuation) (clause : List Lit) → All (IsVarWithin n) clause → AgreeUpTo n v u → HoldsIn v clause → HoldsIn u clause
agree_holds n v u clause within same h =
    let w = All-contains (IsVarWithin n) clause h.1 within (h.0, h.2, h.3) in
    (h.0, h.1, h.2, h.3, sym (same h.1.var.0 w.first w.last) ∙ h.4)

pub agree_satisfied : (n : ℕ) (v u : Valuation) (clauses : List (List Lit)) → All (All (IsVarWithin n)) clauses → AgreeUpTo n v u → Satisfies v clauses → Satisfies u clauses
agree_satisfied n v u clauses within same h k d lt =
    agree_holds n v u (get_or clauses k d) (All-get_or (All (IsVarWithin n)) clauses k d lt within) same (h k d lt)
