-- Clauses over variables behind others.
use Rattle.std.proofs.Common.{◌≡◌, ℕ, ◌+◌, ◌<◌, ◌≤◌, List, length, get_or, map, sym, ap, subst, arith}
use Rattle.std.specs.List.{All}
use Rattle.std.proofs.lemmas.List.{length-map, get_or-map}
use Rattle.std.proofs.lemmas.List.Elements.{All-map, All-contains, All-weaker, Contains-get_or}
use Rattle.eco_lists.proofs.Members.{Contains-map, map-Contains, map-map}
use Rattle.eco_trace.specs.declared.clause.Lit.{Lit}
use Rattle.eco_trace.specs.Clauses.{Valuation, IsClause, IsTrueIn, HoldsIn, Satisfies, IsVarWithin, truth, read}
use Rattle.eco_trace.specs.Adding.{shifted, behind}

-- a clause stays one where its variables are shifted
pub shifted_clause : (by : ℕ) (lits : List Lit) → IsClause lits → IsClause (map (shifted by) lits)
shifted_clause by lits is i j d lt within =
    let last : j < length lits = subst (λ n. j < n) (length-map lits (shifted by)) within in
    let rises : (get_or lits i d).var.0 < (get_or lits j d).var.0 = is i j d lt last in
    let first_at = get_or-map (shifted by) lits i d d (omega arith) in
    let last_at = get_or-map (shifted by) lits j d d last in
    omega (arith, rises, ap (λ (l : Lit). l.var.0) first_at, ap (λ (l : Lit). l.var.0) last_at)

pub shifted_within : (by vars most : ℕ) (lits : List Lit) → vars + by ≤ most → All (IsVarWithin vars) lits → All (IsVarWithin most) (map (shifted by) lits)
shifted_within by vars most lits room within =
    All-map (IsVarWithin most) (shifted by) lits (All-weaker (IsVarWithin vars) (λ l. IsVarWithin most (shifted by l)) (λ l h. record { first = omega (arith, h.first); last = omega (arith, h.last, room) }) lits within)

-- shifted literals are read as the others behind the first variables
pub shifted_read : (d : ℕ) (v : Valuation) (lits : List Lit) → read v (map (shifted d) lits) ≡ read (behind d v) lits
shifted_read d v lits = map-map (shifted d) (truth v) lits

pub shifted_holds : (d : ℕ) (v : Valuation) (clause : List Lit) → HoldsIn (behind d v) clause → HoldsIn v (map (shifted d) clause)
shifted_holds d v clause h =
    let c = Contains-map (shifted d) clause h.1 (h.0, h.2, h.3) in
    (c.0, shifted d h.1, c.1, c.2, h.4)

pub holds_shifted : (d : ℕ) (v : Valuation) (clause : List Lit) → HoldsIn v (map (shifted d) clause) → HoldsIn (behind d v) clause
holds_shifted d v clause h =
    let from = map-Contains (shifted d) clause h.1 (h.0, h.2, h.3) in
    (from.1.0, from.0, from.1.1, from.1.2, subst (IsTrueIn v) (sym from.2) h.4)

pub shifted_satisfied : (d : ℕ) (v : Valuation) (clauses : List (List Lit)) → Satisfies (behind d v) clauses → Satisfies v (map (map (shifted d)) clauses)
shifted_satisfied d v clauses h =
    All-map (HoldsIn v) (map (shifted d)) clauses (All-weaker (HoldsIn (behind d v)) (λ c. HoldsIn v (map (shifted d) c)) (shifted_holds d v) clauses h)

pub satisfied_shifted : (d : ℕ) (v : Valuation) (clauses : List (List Lit)) → Satisfies v (map (map (shifted d)) clauses) → Satisfies (behind d v) clauses
satisfied_shifted d v clauses h k e lt =
    let c = get_or clauses k e in
    holds_shifted d v c (All-contains (HoldsIn v) (map (map (shifted d)) clauses) (map (shifted d) c) h (Contains-map (map (shifted d)) clauses c (Contains-get_or clauses k e lt)))
