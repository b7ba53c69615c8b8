-- Steps of functions that add clauses.
use Rattle.std.proofs.Common.{◌≡◌, ℕ, List, ◌∷◌, map, sym, subst}
use Rattle.std.specs.List.{All}
use Rattle.std.proofs.lemmas.List.Elements.{All-cons, All-map, All-weaker}
use Rattle.eco_trace.specs.declared.clause.Lit.{Lit}
use Rattle.eco_trace.specs.Clauses.{IsVarWithin, complement}

-- a complement is of the same variable
pub complement_within : (vars : ℕ) (l : Lit) → IsVarWithin vars l → IsVarWithin vars (complement l)
complement_within vars l is = record { first = is.first; last = is.last }

-- a literal and the complements of others
pub complements_within : (vars now : ℕ) (l : Lit) (others all : List Lit) → now ≡ vars → all ≡ l ∷ map complement others → IsVarWithin vars l → All (IsVarWithin vars) others → All (IsVarWithin now) all
complements_within vars now l others all same is first rest =
    let whole : All (IsVarWithin vars) (l ∷ map complement others) = All-cons (IsVarWithin vars) l (map complement others) first (All-map (IsVarWithin vars) complement others (All-weaker (IsVarWithin vars) (λ m. IsVarWithin vars (complement m)) (complement_within vars) others rest)) in
    subst (λ n. All (IsVarWithin n) all) (sym same) (subst (All (IsVarWithin vars)) (sym is) whole)
