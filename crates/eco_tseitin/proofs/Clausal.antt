-- Clauses of many lists, and of one literal each: when they hold.
use Rattle.std.proofs.Common.{◌≡◌, ℕ, zero, suc, ◌<◌, List, [], ◌∷◌, ◌++◌, length, get_or, refl, ◌∙◌, ap, subst, arith, map}
use Rattle.std.specs.List.{Contains, All, flat_map}
use Rattle.std.proofs.lemmas.List.Elements.{All-nil, All-cons, All-head, All-tail, All-append}
use Rattle.eco_lists.proofs.Members.{All-front, All-back}
use Rattle.eco_trace.specs.declared.clause.Lit.{Lit}
use Rattle.eco_trace.specs.Clauses.{Valuation, IsTrueIn, HoldsIn, Satisfies}
use Rattle.eco_trace.proofs.HoldingLaws.{one_true, head_true}
use Rattle.eco_tseitin.specs.Encoding.{unit}

-- what the parts of a list hold, each of them holds, and the other way round
pub All-flat : {X Y : Type 0} (P : Y → Type 0) (f : X → List Y) (xs : List X) → ((x : X) → Contains xs x → All P (f x)) → All P (flat_map f xs)
All-flat P f [] each = All-nil P
All-flat P f (x ∷ xs) each =
    All-append P (f x) (flat_map f xs) (each x (0, omega arith, refl)) (All-flat P f xs (λ y c. each y (suc c.0, omega (arith, c.1), c.2)))

pub All-part : {X Y : Type 0} (P : Y → Type 0) (f : X → List Y) (xs : List X) (x : X) (k : ℕ) → k < length xs → get_or xs k x ≡ x → All P (flat_map f xs) → All P (f x)
All-part P f [] x k lt at h = absurd (omega arith)
All-part P f (y ∷ ys) x zero lt at h = subst (λ z. All P (f z)) at (All-front P (f y) (flat_map f ys) h)
All-part P f (y ∷ ys) x (suc k) lt at h = All-part P f ys x k (omega arith) at (All-back P (f y) (flat_map f ys) h)

pub flat_agree : {X Y : Type 0} (f g : X → List Y) (xs : List X) → ((x : X) → Contains xs x → f x ≡ g x) → flat_map f xs ≡ flat_map g xs
flat_agree f g [] each = refl
flat_agree f g (x ∷ xs) each =
    ap (λ front. front ++ flat_map f xs) (each x (0, omega arith, refl)) ∙ ap (λ back. g x ++ back) (flat_agree f g xs (λ y c. each y (suc c.0, omega (arith, c.1), c.2)))

-- the clauses of one literal each
pub units_hold : (v : Valuation) (lits : List Lit) → All (IsTrueIn v) lits → Satisfies v (map unit lits)
units_hold v [] h = All-nil (HoldsIn v)
units_hold v (l ∷ lits) h =
    All-cons (HoldsIn v) (unit l) (map unit lits) (head_true v l [] (All-head (IsTrueIn v) l lits h)) (units_hold v lits (All-tail (IsTrueIn v) l lits h))

pub units_true : (v : Valuation) (lits : List Lit) → Satisfies v (map unit lits) → All (IsTrueIn v) lits
units_true v [] h = All-nil (IsTrueIn v)
units_true v (l ∷ lits) h =
    All-cons (IsTrueIn v) l lits (one_true v l (All-head (HoldsIn v) (unit l) (map unit lits) h)) (units_true v lits (All-tail (HoldsIn v) (unit l) (map unit lits) h))
