-- What adding clauses, one after another, leaves.
use Rattle.std.proofs.Common.{◌≡◌, ◌↔◌, ℕ, ◌≤◌, map, Bool, true, false, not, cond, List, [], ◌∷◌, ◌++◌, refl, sym, ◌∙◌, ap, subst, arith, Any, append_assoc, Some, length, get_or, take, ◌+◌, ◌<◌, add-one}
use Rattle.std.specs.List.{Contains, All, slice_get}
use Rattle.std.proofs.lemmas.Bool.{true≢false}
use Rattle.std.proofs.lemmas.List.{append-nil, take_all}
use Rattle.std.proofs.lemmas.List.Elements.{All-nil, All-cons, All-head, All-append}
use Rattle.std.proofs.lemmas.Option.{slice_get-get_or}
use Rattle.eco_lists.proofs.Places.{take_at_more}
use Rattle.eco_lists.proofs.Members.{All-front, All-back}
use Rattle.eco_lists.proofs.Tests.{same_sign, sign_true, opposite}
use Rattle.eco_trace.specs.declared.clause.Lit.{Lit}
use Rattle.eco_trace.specs.declared.clause.Var.{Var}
use Rattle.eco_trace.specs.Adding.{AddsClausesOf, behind, equality, shifted, with_clauses}
use Rattle.eco_trace.specs.Clauses.{Clauses, Valuation, IsTrueIn, HoldsIn, Satisfies, truth}
use Rattle.eco_trace.proofs.AddingLaws.{adds_satisfied}
use Rattle.eco_trace.proofs.HoldingLaws.{equality_read, read_equality}
use Rattle.eco_trace.proofs.ShiftLaws.{satisfied_shifted, shifted_satisfied}
use Rattle.eco_tseitin.specs.Joined.{positive}
use Rattle.eco_accept.specs.Posing.{HaveAlso, against}

-- the models where one clause stands behind the others
pub pushed : (old new : List (List Lit)) (clause : List Lit) (v : Valuation) → new ≡ old ++ clause ∷ [] → Satisfies v new ↔ (Satisfies v old × HoldsIn v clause)
pushed old new clause v is = (
  λ h.
      let all : Satisfies v (old ++ clause ∷ []) = subst (Satisfies v) is h in
      (All-front (HoldsIn v) old (clause ∷ []) all, All-head (HoldsIn v) clause [] (All-back (HoldsIn v) old (clause ∷ []) all)),
  λ h. subst (Satisfies v) (sym is) (All-append (HoldsIn v) old (clause ∷ []) h.0 (All-cons (HoldsIn v) clause [] h.1 (All-nil (HoldsIn v)))),
)

-- clauses that were added hold as well: the one of some literals, the two of an equality, and those whose variables are shifted
pub also_lits : (old new : Clauses) (lits : List Lit) → AddsClausesOf old new (lits ∷ []) → HaveAlso old new (λ v. HoldsIn v lits)
also_lits old new lits adds v =
    let both = adds_satisfied old new (lits ∷ []) v adds in (
      λ h. let parts = both.0 h in (parts.0, All-head (HoldsIn v) lits [] parts.1),
      λ h. both.1 (h.0, All-cons (HoldsIn v) lits [] h.1 (All-nil (HoldsIn v))),
    )

pub also_equal : (old new : Clauses) (x y : Var) (a b : Lit) → a ≡ positive x → b ≡ positive y → AddsClausesOf old new (equality a b) → HaveAlso old new (λ v. v x.0 ≡ v y.0)
also_equal old new x y a b a_is b_is adds v =
    let both = adds_satisfied old new (equality a b) v adds in
    let left = ap (truth v) a_is in
    let right = ap (truth v) b_is in (
      λ h. let parts = both.0 h in (parts.0, sym left ∙ equality_read v a b parts.1 ∙ right),
      λ h. both.1 (h.0, read_equality v a b (left ∙ h.1 ∙ sym right)),
    )

pub also_shifted : (old new : Clauses) (by : ℕ) (own : List (List Lit)) → new ≡ with_clauses old (map (map (shifted by)) own) → HaveAlso old new (λ v. Satisfies (behind by v) own)
also_shifted old new by own is v =
    let more = map (map (shifted by)) own in
    let clauses : new.clauses ≡ old.clauses ++ more = ap (λ (c : Clauses). c.clauses) is in (
      λ h.
          let all : Satisfies v (old.clauses ++ more) = subst (Satisfies v) clauses h in
          (All-front (HoldsIn v) old.clauses more all, satisfied_shifted by v own (All-back (HoldsIn v) old.clauses more all)),
      λ h. subst (Satisfies v) (sym clauses) (All-append (HoldsIn v) old.clauses more h.0 (shifted_satisfied by v own h.1)),
    )

-- nothing more is said at first
pub also_none : (old new : Clauses) (P : Valuation → Type 0) → new.clauses ≡ old.clauses → ((v : Valuation) → P v) → HaveAlso old new P
also_none old new P same holds v = (λ h. (subst (Satisfies v) same h, holds v), λ h. subst (Satisfies v) (sym same) h.0)

-- one item more of those that all are so
pub all_more : {X : Type 0} (P : X → Type 0) (xs : List X) (k : ℕ) (x : X) → k < length xs → x ≡ get_or xs k x → All P (take (k + 1) xs) ↔ (All P (take k xs) × P x)
all_more P xs k x lt at =
    let here : slice_get xs k ≡ Some x = slice_get-get_or xs k x lt ∙ ap Some (sym at) in
    let next : take (k + 1) xs ≡ take k xs ++ x ∷ [] = rw add-one (take_at_more xs k x here) in (
      λ h. let all : All P (take k xs ++ x ∷ []) = subst (All P) next h in (All-front P (take k xs) (x ∷ []) all, All-head P x [] (All-back P (take k xs) (x ∷ []) all)),
      λ h. subst (All P) (sym next) (All-append P (take k xs) (x ∷ []) h.0 (All-cons P x [] h.1 (All-nil P))),
    )

-- one more of what all items say of a valuation
pub also_more : {X : Type 0} (P : Valuation → X → Type 0) (Q : Valuation → Type 0) (old mid new : Clauses) (xs : List X) (k : ℕ) (x : X) → k < length xs → x ≡ get_or xs k x → ((v : Valuation) → Q v ↔ P v x) → HaveAlso old mid (λ v. All (P v) (take k xs)) → HaveAlso mid new Q → HaveAlso old new (λ v. All (P v) (take (k + 1) xs))
also_more P Q old mid new xs k x lt at same one two v =
    let both = all_more (P v) xs k x lt at in (
      λ h. let q = (two v).0 h in let p = (one v).0 q.0 in (p.0, both.1 (p.1, (same v).0 q.1)),
      λ h. let parts = both.0 h.1 in (two v).1 ((one v).1 (h.0, parts.0), (same v).1 parts.1),
    )

-- all items are those so far at the end
pub also_end : {X : Type 0} (P : Valuation → X → Type 0) (old new : Clauses) (xs ys : List X) (k : ℕ) → length xs ≤ k → xs ≡ ys → HaveAlso old new (λ v. All (P v) (take k xs)) → HaveAlso old new (λ v. All (P v) ys)
also_end P old new xs ys k le same also = subst (λ list. HaveAlso old new (λ v. All (P v) list)) (take_all k xs le ∙ same) also

-- a literal against the mark is true where the bit isn't the mark
pub against_true : (part : Bool) (l : Lit) (u : Valuation) → IsTrueIn u (against part l) → truth u l ≡ not part
against_true true l u is = by l.positive (u l.var.0) is
  where
    by : (p x : Bool) → x ≡ not p → cond p x (not x) ≡ false
    by true x e = e
    by false x e = ap not e
against_true false l u is = sign_true l.positive (u l.var.0) is

pub true_against : (part : Bool) (l : Lit) (u : Valuation) → truth u l ≡ not part → IsTrueIn u (against part l)
true_against true l u is = opposite (u l.var.0) l.positive (λ same. true≢false (sym (sign_true l.positive (u l.var.0) same) ∙ is))
true_against false l u is = sym (same_sign l.positive (u l.var.0) is)
