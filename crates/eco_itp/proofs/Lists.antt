-- Members of lists, and the literals of a clause.
use Rattle.std.proofs.Common.{◌≡◌, ◌≢◌, suc, Bool, List, [], ◌∷◌, get_or, ◌⊎◌, inl, inr, refl, ◌∙◌, ap, arith, Any, Contains}
use Rattle.std.specs.List.{list_any}
use Rattle.std.proofs.lemmas.Bool.{cases_order, cases_eq}
use Rattle.std.proofs.lemmas.List.{get_or_default}
use Rattle.eco_trace.proofs.ClauseLaws.{same_var}
use Rattle.eco_trace.specs.declared.clause.Var.{Var}
use Rattle.eco_trace.specs.declared.clause.Lit.{Lit}
use Rattle.eco_trace.specs.Clauses.{IsClause}

-- what holds of a member holds of some element
pub Any_from : {X : Type 0} (P : X → Type 0) (xs : List X) (x : X) → Contains xs x → P x → Any P xs
Any_from P xs x m h = (m.0, x, m.1, m.2, h)

-- the element of which it holds is a member
pub Any_member : {X : Type 0} (P : X → Type 0) (xs : List X) (a : Any P xs) → Contains xs a.1
Any_member P xs a = (a.0, a.2, a.3)

-- what follows for members
pub Any_weaker : {X : Type 0} (P Q : X → Type 0) (xs : List X) → ((x : X) → Contains xs x → P x → Q x) → Any P xs → Any Q xs
Any_weaker P Q xs h a = (a.0, a.1, a.2, a.3, h a.1 (a.0, a.2, a.3) a.4)

-- nothing holds of an element of the empty list
pub Any-nil : {X : Type 0} (P : X → Type 0) → Any P [] → ⊥
Any-nil P a = let within = a.2 in omega arith

-- tests that agree at the members agree on the list
pub list_any_agree : {X : Type 0} (p q : X → Bool) (xs : List X) → ((x : X) → Contains xs x → p x ≡ q x) → list_any p xs ≡ list_any q xs
list_any_agree p q [] h = refl
list_any_agree p q (x ∷ xs) h =
    let here : p x ≡ q x = h x (0, omega arith, refl) in
    let later = list_any_agree p q xs (λ y m. h y (let within = m.1 in (suc m.0, omega arith, m.2))) in
    cc

-- two variables are one or differ
pub cases_var : (x y : Var) → (x ≡ y) ⊎ (x ≢ y)
cases_var x y = elim (cases_eq x.0 y.0) [ inl same ↦ inl (same_var x y same) | inr apart ↦ inr (λ e. apart (ap (λ (x : Var). x.0) e)) ]

-- a clause has one literal of a variable at most
pub one_literal : (clause : List Lit) (l m : Lit) → IsClause clause → Contains clause l → Contains clause m → l.var ≡ m.var → l ≡ m
one_literal clause l m rises (i, lti, ati) (j, ltj, atj) e =
    let at : get_or clause j l ≡ m = get_or_default clause j l m ltj ∙ atj in
    let same : (get_or clause i l).var.0 ≡ (get_or clause j l).var.0 = cc in
    elim (cases_order i j) [
      | inl here ↦ cc
      | inr (inl before) ↦ let lt = rises i j l before ltj in absurd (omega arith)
      | inr (inr behind) ↦ let lt = rises j i l behind lti in absurd (omega arith)
    ]
