-- Clauses as sets of literals.
use Rattle.std.proofs.Common.{◌≡◌, ℕ, ◌<◌, ◌≤◌, List, [], ◌∷◌, get_or, inl, inr, refl, sym, ap, ◌∙◌, subst, arith, Contains, ◌⊎◌, Bool, true, false, not, cond}
use Rattle.std.proofs.lemmas.Bool.{cases_order}
use Rattle.std.proofs.lemmas.List.{get_or_default}
use Rattle.std.specs.List.{All}
use Rattle.std.proofs.Math.Bool.{not-not}
use Rattle.std.proofs.lemmas.List.Elements.{All-contains, Contains-get_or}
use Rattle.eco_lists.proofs.Tests.{not_own}
use Rattle.eco_lists.proofs.Members.{AllPairs-head, AllPairs-tail, Contains_cases, Contains_first, Contains_later, Contains_none}
use Rattle.eco_trace.specs.declared.clause.Var.{Var}
use Rattle.eco_trace.specs.declared.clause.Lit.{Lit}
use Rattle.eco_trace.specs.Clauses.{IsClause, complement, Valuation, IsClauseOf, IsVarWithin, IsTrueIn, truth}

-- a variable is its number
pub same_var : (v w : Var) → v.0 ≡ w.0 → v ≡ w
same_var v w e =
    let of : ℕ → Var = λ n. record { 0 = n } in
    ap of e

-- a clause holds one literal of a variable at most
pub clause_one : (c : List Lit) → IsClause c → (a b : Lit) → Contains c a → Contains c b → a.var.0 ≡ b.var.0 → a ≡ b
clause_one c h a b (i, il, ie) (j, jl, je) e =
    let je' : get_or c j a ≡ b = get_or_default c j a b jl ∙ je in
    let ve : (get_or c i a).var.0 ≡ (get_or c j a).var.0 = cc in
    elim (cases_order i j) [
      | inl same ↦ cc
      | inr (inl lt) ↦ let rises = h i j a lt jl in absurd (omega arith)
      | inr (inr gt) ↦ let rises = h j i a gt il in absurd (omega arith)
    ]

-- a clause holds no literal together with its complement
pub clause_one_sided : (c : List Lit) → IsClause c → (l : Lit) → Contains c l → Contains c (complement l) → ⊥
clause_one_sided c h l m n =
    let e : l ≡ complement l = clause_one c h l (complement l) m n refl in
    not_own l.positive (ap (λ (k : Lit). k.positive) e)

-- a clause whose first literal's variable isn't below n has none below n
pub clause_from : (x : Lit) (xs : List Lit) → IsClause (x ∷ xs) → (n : ℕ) → n ≤ x.var.0 → (b : Lit) → Contains (x ∷ xs) b → n ≤ b.var.0
clause_from x xs h n le b m =
    elim (Contains_cases x b xs m) [
      | inl e ↦ subst (λ (k : Lit). n ≤ k.var.0) e le
      | inr later ↦ let lt : x.var.0 < b.var.0 = AllPairs-head (λ (k l : Lit). k.var.0 < l.var.0) x xs h b later in omega arith
    ]

-- what is left of a clause without its first literal
pub clause_rest : (x : Lit) (xs : List Lit) → IsClause (x ∷ xs) → IsClause xs
clause_rest x xs h = AllPairs-tail (λ (k l : Lit). k.var.0 < l.var.0) x xs h

-- no literal is a clause
pub clause_none : IsClause []
clause_none i j d lt in' = absurd (omega arith)

-- a later literal of one clause that stands in another with the same first literal is a later one there
rest_in : (x : Lit) (xs : List Lit) (y : Lit) (ys : List Lit) → IsClause (x ∷ xs) → x ≡ y → (l : Lit) → Contains xs l → Contains (y ∷ ys) l → Contains ys l
rest_in x xs y ys h e l m n =
    elim (Contains_cases y l ys n) [
      | inl same ↦
          let lt : x.var.0 < l.var.0 = AllPairs-head (λ (k l : Lit). k.var.0 < l.var.0) x xs h l m in
          let back : x.var.0 ≡ l.var.0 = ap (λ (k : Lit). k.var.0) (e ∙ same) in
          absurd (omega arith)
      | inr later ↦ later
    ]

-- two clauses with the same literals are the same
pub clause_same : (c d : List Lit) → IsClause c → IsClause d → ((l : Lit) → Contains c l → Contains d l) → ((l : Lit) → Contains d l → Contains c l) → c ≡ d
clause_same [] [] hc hd to from = refl
clause_same [] (y ∷ ys) hc hd to from = absurd (Contains_none y (from y (Contains_first y ys)))
clause_same (x ∷ xs) [] hc hd to from = absurd (Contains_none x (to x (Contains_first x xs)))
clause_same (x ∷ xs) (y ∷ ys) hc hd to from =
    let up : y.var.0 ≤ x.var.0 = clause_from y ys hd y.var.0 (omega arith) x (to x (Contains_first x xs)) in
    let down : x.var.0 ≤ y.var.0 = clause_from x xs hc x.var.0 (omega arith) y (from y (Contains_first y ys)) in
    let e : x ≡ y = clause_one (y ∷ ys) hd x y (to x (Contains_first x xs)) (Contains_first y ys) (omega arith) in
    let more : xs ≡ ys =
    clause_same xs ys (clause_rest x xs hc) (clause_rest y ys hd)
    (λ l m. rest_in x xs y ys hc e l m (to l (Contains_later x l xs m)))
    (λ l m. rest_in y ys x xs hd (sym e) l m (from l (Contains_later y l ys m)))
    in
    cc

-- a clause has the variables of its literals
pub clause_within : (n : ℕ) (lits clause : List Lit) → IsClauseOf lits clause → All (IsVarWithin n) lits → All (IsVarWithin n) clause
clause_within n lits clause of within k d lt =
    All-contains (IsVarWithin n) lits (get_or clause k d) within ((of.members (get_or clause k d)).0 (Contains-get_or clause k d lt))

-- the complement of the complement
pub complement_twice : (l : Lit) → complement (complement l) ≡ l
complement_twice l = ap (λ (b : Bool). record { var = l.var; positive = b }) (not-not l.positive)

-- literals with one complement are one
pub same_complement : (x y : Lit) → complement x ≡ complement y → x ≡ y
same_complement x y e = sym (complement_twice x) ∙ ap complement e ∙ complement_twice y

-- a literal or its complement is true
pub lit_cases : (v : Valuation) (l : Lit) → IsTrueIn v l ⊎ IsTrueIn v (complement l)
lit_cases v l = by (v l.var.0) l.positive
  where
    by : (value sign : Bool) → (value ≡ sign) ⊎ (value ≡ not sign)
    by true true = inl refl
    by true false = inr refl
    by false true = inr refl
    by false false = inl refl

-- the complement has the other bit
pub complement_read : (v : Valuation) (l : Lit) → truth v (complement l) ≡ not (truth v l)
complement_read v l = by l.positive (v l.var.0)
  where
    by : (p x : Bool) → cond (not p) x (not x) ≡ not (cond p x (not x))
    by true x = refl
    by false true = refl
    by false false = refl
