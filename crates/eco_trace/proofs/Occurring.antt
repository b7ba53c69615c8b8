-- The variables of clauses, clause by clause.
use Rattle.std.proofs.Common.{◌≡◌, ◌↔◌, ◌⊎◌, ℕ, zero, suc, ◌+◌, ◌<◌, ◌≤◌, Bool, true, false, ◌||◌, nat_eq, List, [], ◌∷◌, Some, length, get_or, inl, inr, refl, sym, ◌∙◌, ap, subst, arith, Any}
use Rattle.std.specs.List.{slice_get, list_any}
use Rattle.std.proofs.lemmas.Bool.{cases_eq, eq-eqb, eqb-true, or_cases, or_left, or_right, false≢true}
use Rattle.std.proofs.lemmas.Option.{same_Some, slice_get_within}
use Rattle.eco_trace.specs.declared.clause.Var.{Var}
use Rattle.eco_trace.specs.declared.clause.Lit.{Lit}
use Rattle.eco_trace.specs.Split.{Split, Mentions, AreOfPart}
use Rattle.eco_trace.proofs.ClauseLaws.{same_var}

-- an element that passes is a member for which the test is true
pub Any_from_test : {X : Type 0} (test : X → Bool) (xs : List X) → list_any test xs ≡ true → Any (λ x. test x ≡ true) xs
Any_from_test test [] e = absurd (false≢true e)
Any_from_test test (x ∷ xs) e = elim (or_cases (test x) (list_any test xs) e) [
  | inl here ↦ (0, x, omega arith, refl, here)
  | inr later ↦ let a = Any_from_test test xs later in let within = a.2 in (suc a.0, a.1, omega arith, a.3, a.4)
]

-- a member that passes
pub test_from_Any : {X : Type 0} (test : X → Bool) (xs : List X) (k : ℕ) (x : X) → k < length xs → get_or xs k x ≡ x → test x ≡ true → list_any test xs ≡ true
test_from_Any test [] k x lt at e = absurd (omega arith)
test_from_Any test (y ∷ xs) zero x lt at e = or_left (test y) (list_any test xs) (ap test at ∙ e)
test_from_Any test (y ∷ xs) (suc k) x lt at e = or_right (test y) (list_any test xs) (test_from_Any test xs k x (omega arith) at e)

-- a variable occurs in the clause where its number is that of a literal's
mentioned : (clause : List Lit) (x : Var) → list_any (λ l. nat_eq x.0 l.var.0) clause ≡ true → Mentions clause x
mentioned clause x e =
    let a = Any_from_test (λ (l : Lit). nat_eq x.0 l.var.0) clause e in
    (a.0, a.1, a.2, a.3, same_var (a.1).var x (sym (eqb-true x.0 (a.1).var.0 a.4)))

tested : (clause : List Lit) (x : Var) → Mentions clause x → list_any (λ l. nat_eq x.0 l.var.0) clause ≡ true
tested clause x a =
    test_from_Any (λ (l : Lit). nat_eq x.0 l.var.0) clause a.0 a.1 a.2 a.3 (eq-eqb x.0 (a.1).var.0 (sym (ap (λ (y : Var). y.0) a.4)))

-- the numbers of a clause's variables were added
pub added_clause : (old new : ℕ → Bool) (clause : List Lit) → ((q : ℕ) → new q ≡ (old q || list_any (λ l. nat_eq q l.var.0) clause)) → (x : Var) → (new x.0 ≡ true) ↔ ((old x.0 ≡ true) ⊎ Mentions clause x)
added_clause old new clause added x = (
  λ is. elim (or_cases (old x.0) (list_any (λ l. nat_eq x.0 l.var.0) clause) (sym (added x.0) ∙ is)) [
    | inl older ↦ inl older
    | inr here ↦ inr (mentioned clause x here)
  ],
  λ o. added x.0 ∙ elim o [
    | inl older ↦ or_left (old x.0) (list_any (λ l. nat_eq x.0 l.var.0) clause) older
    | inr here ↦ or_right (old x.0) (list_any (λ l. nat_eq x.0 l.var.0) clause) (tested clause x here)
  ],
)

-- the variable occurs in a clause of the part before this place
abbrev pub OccursBefore : Split → Bool → ℕ → Var → Type 0
OccursBefore s part n x = (k : ℕ) × (k < n) × (clause : List Lit) × (slice_get s.clauses k ≡ Some clause) × (slice_get s.marks k ≡ Some part) × Mentions clause x

-- the set has just these variables
abbrev pub AreBefore : (Var → Bool) → Split → Bool → ℕ → Type 0
AreBefore set s part n = (x : Var) → (set x ≡ true) ↔ OccursBefore s part n x

-- none at first
pub none_before : (set : Var → Bool) (s : Split) (part : Bool) → ((x : Var) → set x ≡ false) → AreBefore set s part 0
none_before set s part none = λ x. (λ is. absurd (false≢true (sym (none x) ∙ is)), λ o. absurd (let lt = o.1 in omega arith))

-- one more clause of the part, whose variables were added
pub before_more : (old new : Var → Bool) (s : Split) (part : Bool) (n : ℕ) (clause : List Lit) → slice_get s.clauses n ≡ Some clause → slice_get s.marks n ≡ Some part → ((x : Var) → (new x ≡ true) ↔ ((old x ≡ true) ⊎ Mentions clause x)) → AreBefore old s part n → AreBefore new s part (n + 1)
before_more old new s part n clause at_clause at_mark added are = λ x. (
  λ is. elim ((added x).0 is) [
    | inl older ↦ let o = (are x).0 older in (o.0, (let lt = o.1 in omega arith), o.2, o.3, o.4, o.5)
    | inr here ↦ (n, omega arith, clause, at_clause, at_mark, here)
  ],
  λ o. (added x).1 (elim (cases_eq o.0 n) [
    | inl here ↦
        let same : o.2 ≡ clause = same_Some o.2 clause (sym o.3 ∙ ap (slice_get s.clauses) here ∙ at_clause) in
        inr (subst (λ (c : List Lit). Mentions c x) same o.5)
    | inr other ↦ inl ((are x).1 (o.0, (let lt = o.1 in omega (arith, lt, other)), o.2, o.3, o.4, o.5))
  ]),
)

-- one more clause of the other part
pub before_same : (set : Var → Bool) (s : Split) (part mark : Bool) (n : ℕ) → slice_get s.marks n ≡ Some mark → (mark ≡ part → ⊥) → AreBefore set s part n → AreBefore set s part (n + 1)
before_same set s part mark n at_mark differs are = λ x. (
  λ is. let o = (are x).0 is in (o.0, (let lt = o.1 in omega arith), o.2, o.3, o.4, o.5),
  λ o. elim (cases_eq o.0 n) [
    | inl here ↦ absurd (differs (same_Some mark part (sym at_mark ∙ ap (slice_get s.marks) (sym here) ∙ o.4)))
    | inr other ↦ (are x).1 (o.0, (let lt = o.1 in omega (arith, lt, other)), o.2, o.3, o.4, o.5)
  ],
)

-- all clauses
pub before_all : (set : Var → Bool) (s : Split) (part : Bool) (n : ℕ) → length s.marks ≤ n → AreBefore set s part n → AreOfPart s part set
before_all set s part n le are = λ x. (
  λ is. let o = (are x).0 is in (o.2, (o.0, o.3, o.4), o.5),
  λ o. (are x).1 ((o.1).0, (let lt = slice_get_within s.marks (o.1).0 part (o.1).2 in omega (arith, lt, le)), o.0, (o.1).1, (o.1).2, o.2),
)
