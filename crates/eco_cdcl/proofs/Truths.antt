-- What is known of literals.
use Rattle.std.proofs.Common.{◌≡◌, ◌≢◌, ℕ, ◌+◌, ◌*◌, ◌^◌, ◌<◌, ◌⊎◌, inl, inr, Bool, true, false, cond, List, [], ◌∷◌, take, slice_get, Some, refl, sym, ap, ◌∙◌, subst, arith, Contains}
use Rattle.std.proofs.lemmas.Bool.{cases_eq, cases_order}
use Rattle.std.proofs.lemmas.Option.{same_Some}
use Rattle.std.proofs.lemmas.List.Elements.{All-cons}
use Rattle.eco_lists.proofs.Members.{Contains_first, Contains_later}
use Rattle.eco_lists.proofs.Places.{place_of, pair_at, place_in_front, Contains_at}
use Rattle.eco_lists.proofs.Tests.{cases_bits, not_own, opposite}
use Rattle.eco_trace.specs.declared.clause.Var.{Var}
use Rattle.eco_trace.specs.declared.clause.Lit.{Lit}
use Rattle.eco_trace.specs.Clauses.{complement, IsVarWithin}
use Rattle.eco_trace.specs.Freshness.{Lacks}
use Rattle.eco_trace.proofs.ClauseLaws.{same_var}
use Rattle.eco_learn.specs.Trails.{Known, IsTrail}
use Rattle.eco_cdcl.specs.Entries.{code_of, lit_of}
use Rattle.eco_cdcl.specs.Codes.{lit_code}

-- literals of one variable with one sign, and with two
pub same_lit : (a b : Lit) → a.var ≡ b.var → a.positive ≡ b.positive → a ≡ b
same_lit a b e f =
    let of : Var → Bool → Lit = λ v p. record { var = v; positive = p } in
    ap (λ v. of v a.positive) e ∙ ap (of b.var) f

pub other_lit : (a b : Lit) → a.var ≡ b.var → a.positive ≢ b.positive → a ≡ complement b
other_lit a b e f = same_lit a (complement b) e (opposite a.positive b.positive f)

-- a literal with its code
pub code_one : (a b : Lit) → code_of a ≡ code_of b → a ≡ b
code_one a b e = sym (lit_code a) ∙ ap lit_of e ∙ lit_code b

pub code_within : (vars : ℕ) (l : Lit) → IsVarWithin vars l → code_of l < 2 * vars + 2
code_within vars l w = below l.positive
  where
    below : (b : Bool) → 2 * l.var.0 + cond b 1 0 < 2 * vars + 2
    below true = omega (arith, w.last)
    below false = omega (arith, w.last)

-- no literal of a trail stands there together with its complement
pub one_sided : (k : Known) → IsTrail k → (l : Lit) → Contains k.lits l → Contains k.lits (complement l) → ⊥
one_sided k h l m n =
    let a = place_of k.lits l m in
    let b = place_of k.lits (complement l) n in
    elim (cases_order a.0 b.0) [
      | inl e ↦
          let at : slice_get k.lits b.0 ≡ Some l = ap (slice_get k.lits) (sym e) ∙ a.1 in
          let same : l ≡ complement l = same_Some l (complement l) (sym at ∙ b.1) in
          not_own l.positive (ap (λ (z : Lit). z.positive) same)
      | inr (inl lt) ↦ pair_at (λ (x y : Lit). x.var ≢ y.var) k.lits a.0 b.0 l (complement l) h.apart lt a.1 b.1 refl
      | inr (inr gt) ↦ pair_at (λ (x y : Lit). x.var ≢ y.var) k.lits b.0 a.0 (complement l) l h.apart gt b.1 a.1 refl
    ]

-- nothing is known of the literal
pub not_lacking : (t : List Lit) (l x : Lit) → Lacks t l → Contains t x → x.var ≡ l.var → ⊥
not_lacking t l x h (k, lt, e) same = h k x lt (ap (λ (z : Lit). z.var) e ∙ same)

-- a literal is true or false, or nothing is known of it
pub truth_cases : (t : List Lit) (l : Lit) → Contains t l ⊎ (Contains t (complement l) ⊎ Lacks t l)
truth_cases [] l = inr (inr (λ k d lt. absurd (omega arith)))
truth_cases (x ∷ t) l =
    elim (cases_eq x.var.0 l.var.0) [
      | inl e ↦ elim (cases_bits x.positive l.positive) [
        | inl f ↦ inl (subst (Contains (x ∷ t)) (same_lit x l (same_var x.var l.var e) f) (Contains_first x t))
        | inr f ↦ inr (inl (subst (Contains (x ∷ t)) (other_lit x l (same_var x.var l.var e) f) (Contains_first x t)))
      ]
      | inr ne ↦ elim (truth_cases t l) [
        | inl m ↦ inl (Contains_later x l t m)
        | inr (inl m) ↦ inr (inl (Contains_later x (complement l) t m))
        | inr (inr lacks) ↦ inr (inr (All-cons (λ (z : Lit). z.var ≢ l.var) x t (λ e. ne (ap (λ (v : Var). v.0) e)) lacks))
      ]
    ]

-- what stands in the front stands in the list
pub Contains_front : {X : Type 0} (n : ℕ) (xs : List X) (x : X) → Contains (take n xs) x → Contains xs x
Contains_front n xs x m =
    let p = place_of (take n xs) x m in
    Contains_at xs p.0 x (place_in_front n xs p.0 x p.1).1

-- two literals are one or differ
pub lit_cases : (a b : Lit) → (a ≡ b) ⊎ (a ≢ b)
lit_cases a b =
    elim (cases_eq a.var.0 b.var.0) [
      | inr ne ↦ inr (λ e. ne (ap (λ (z : Lit). z.var.0) e))
      | inl e ↦ elim (cases_bits a.positive b.positive) [
        | inl f ↦ inl (same_lit a b (same_var a.var b.var e) f)
        | inr f ↦ inr (λ e. f (ap (λ (z : Lit). z.positive) e))
      ]
    ]

pub code_small : (k : Known) → IsTrail k → (l : Lit) → IsVarWithin k.vars l → code_of l < 2 ^ 32
code_small k trail l w = let below : code_of l < 2 * k.vars + 2 = code_within k.vars l w in omega (arith, below, trail.small)
