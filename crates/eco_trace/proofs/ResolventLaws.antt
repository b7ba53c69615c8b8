-- Resolvents: when there is one, and that there is one at most.
use Rattle.std.proofs.Common.{◌≡◌, Bool, true, false, not, List, refl, sym, ap, ◌∙◌, subst, Contains, IsTrue, Option, Some, None, IfNone}
use mathlib.Core.Bool.{beq}
use Rattle.std.proofs.lemmas.Bool.{true≢false, false≢true}
use Rattle.eco_trace.specs.declared.clause.Lit.{Lit}
use Rattle.eco_trace.specs.declared.clause.Var.{Var}
use Rattle.eco_trace.specs.Clauses.{IsClause, complement}
use Rattle.eco_trace.specs.Resolution.{IsOpposed, IsResolvent}
use Rattle.eco_trace.specs.Merging.{IsUnion}
use Rattle.eco_trace.proofs.ClauseLaws.{clause_one, clause_same}

-- unequal signs are opposite
signs_apart : (a b : Bool) → IsTrue (not (beq a b)) → b ≡ not a
signs_apart true true h = absurd (false≢true h)
signs_apart true false h = refl
signs_apart false true h = refl
signs_apart false false h = absurd (false≢true h)

-- opposite signs are unequal
signs_opposed : (a b : Bool) → b ≡ not a → IsTrue (not (beq a b))
signs_opposed true true e = absurd (true≢false e)
signs_opposed true false e = refl
signs_opposed false true e = refl
signs_opposed false false e = absurd (false≢true e)

-- a literal is its variable and its sign
same_lit : (v w : Var) (a b : Bool) → v ≡ w → a ≡ b → ◌≡◌ {A = Lit} (record { var = v; positive = a }) (record { var = w; positive = b })
same_lit v w a b e f = cc

-- literals of the pivot with unequal signs oppose the clauses
pub opposed_from : (left right : List Lit) (pivot : Var) (one other : Lit) → Contains left one → one.var ≡ pivot → Contains right other → other.var ≡ pivot → IsTrue (not (beq one.positive other.positive)) → IsOpposed left right pivot
opposed_from left right pivot one other in_left e in_right f apart =
    let same : other ≡ complement one =
    same_lit other.var one.var other.positive (not one.positive) (f ∙ sym e) (signs_apart one.positive other.positive apart)
    in
    record { lit = one; variable = e; in_left = in_left; in_right = subst (λ (k : Lit). Contains right k) same in_right }

-- in opposed clauses the literals of the pivot have unequal signs
pub opposed_to : (left right : List Lit) (pivot : Var) (one other : Lit) → IsClause left → IsClause right → Contains left one → one.var ≡ pivot → Contains right other → other.var ≡ pivot → IsOpposed left right pivot → IsTrue (not (beq one.positive other.positive))
opposed_to left right pivot one other hl hr in_left e in_right f o =
    let here : o.lit ≡ one = clause_one left hl o.lit one o.in_left in_left (ap (λ (v : Var). v.0) (o.variable ∙ sym e)) in
    let there : complement o.lit ≡ other =
    clause_one right hr (complement o.lit) other o.in_right in_right (ap (λ (v : Var). v.0) (o.variable ∙ sym f))
    in
    signs_opposed one.positive other.positive (ap (λ (k : Lit). k.positive) (sym there) ∙ ap (λ (k : Lit). not k.positive) here)

-- the resolvent is the union without the pivot's literals
union_from : (left right : List Lit) (pivot : Var) (clause : List Lit) → IsResolvent left right pivot clause → IsUnion pivot left right clause
union_from left right pivot clause r = record { clause_itself = r.clause_itself; members = r.members }

-- two clauses have one resolvent on a pivot at most
pub resolvent_one : (left right : List Lit) (pivot : Var) (c d : List Lit) → IsResolvent left right pivot c → IsResolvent left right pivot d → c ≡ d
resolvent_one left right pivot c d r s =
    clause_same c d r.clause_itself s.clause_itself (λ l m. (s.members l).1 ((r.members l).0 m)) (λ l m. (r.members l).1 ((s.members l).0 m))

-- where there is no union there is no resolvent
pub no_resolvent : {A : Type 0} (left right : List Lit) (pivot : Var) (made : Option A) → IfNone made ((clause : List Lit) → IsUnion pivot left right clause → ⊥) → IfNone made ((clause : List Lit) → IsResolvent left right pivot clause → ⊥)
no_resolvent left right pivot None h = λ clause r. h clause (union_from left right pivot clause r)
no_resolvent left right pivot (Some x) h = h
