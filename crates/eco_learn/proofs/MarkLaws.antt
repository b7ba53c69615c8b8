-- Marked variables, and the clause that they choose.
use Rattle.std.proofs.Common.{◌≡◌, ◌≢◌, ℕ, ◌+◌, ◌<◌, ◌⊎◌, inl, inr, Bool, true, false, List, [], ◌∷◌, ◌++◌, Some, length, get_or, set, refl, sym, ap, ◌∙◌, subst, arith, length-set}
use Rattle.std.specs.List.{slice_get}
use Rattle.std.proofs.lemmas.Bool.{true≢false, false≢true, cases_lt, cases_eq}
use Rattle.std.proofs.lemmas.List.Elements.{Contains-push, Contains-push_cases, Contains-append_left}
use Rattle.std.proofs.lemmas.Option.{slice_get-get_or, get_or_from_slice_get, same_Some}
use Rattle.eco_lists.proofs.Members.{Contains_none}
use Rattle.eco_lists.proofs.Places.{slice_get_from_get_or, slice_get-set_same, slice_get-set_other, set_cases}
use Rattle.eco_trace.specs.declared.clause.Lit.{Lit}
use Rattle.eco_learn.specs.Marks.{IsIn, HasGot, HasTurned, IsSeenAt, AreUnseen}

-- what is in a set after a write
pub in_cases : (marks : List Bool) (v w : ℕ) (b : Bool) → IsIn (set marks v b) w → ((w ≡ v) × (true ≡ b)) ⊎ ((w ≢ v) × IsIn marks w)
in_cases marks v w b e = set_cases marks v b w true e

-- the set has got nothing yet
pub got_none : (marks : List Bool) → HasGot marks [] marks
got_none marks = record {
  long = refl;
  kept = λ v h. h;
  got = λ v h. absurd (Contains_none h.lit h.member);
  only = λ v h. inl h;
}

-- it gets one more
pub got_more : (old : List Bool) (done : List Lit) (marks : List Bool) (l : Lit) → HasGot old done marks → l.var.0 < length marks → HasGot old (done ++ l ∷ []) (set marks l.var.0 true)
got_more old done marks l h lt = record {
  long = length-set marks l.var.0 true ∙ h.long;
  kept = λ v old_in. stays v (h.kept v old_in);
  got = λ v has.
      elim (Contains-push_cases done l has.lit has.member) [
        | inl before ↦ stays v (h.got v (record { lit = has.lit; member = before; variable = has.variable }))
        | inr new ↦
            let same : l.var.0 ≡ v = ap (λ (k : Lit). k.var.0) new ∙ has.variable in
            subst (λ (n : ℕ). IsIn (set marks l.var.0 true) n) same (slice_get-set_same marks l.var.0 true lt)
      ];
  only = λ v in_new.
      elim (in_cases marks l.var.0 v true in_new) [
        | inl here ↦ inr (record { lit = l; member = Contains-push done l; variable = sym here.0 })
        | inr other ↦
            elim (h.only v other.1) [
              | inl before ↦ inl before
              | inr has ↦ inr (record { lit = has.lit; member = Contains-append_left done (l ∷ []) has.lit has.member; variable = has.variable })
            ]
      ];
}
  where
    stays : (v : ℕ) → IsIn marks v → IsIn (set marks l.var.0 true) v
    stays v h =
        elim (cases_eq v l.var.0) [
          | inl same ↦ subst (λ (n : ℕ). IsIn (set marks l.var.0 true) n) (sym same) (slice_get-set_same marks l.var.0 true lt)
          | inr other ↦ slice_get-set_other marks l.var.0 v true other ∙ h
        ]

-- it loses the pivot
pub turned_from : (old : List Bool) (clause : List Lit) (pivot : ℕ) (got : List Bool) → HasGot old clause got → HasTurned old clause pivot (set got pivot false)
turned_from old clause pivot got h = record {
  long = length-set got pivot false ∙ h.long;
  lost = λ e. elim (in_cases got pivot pivot false e) [ inl here ↦ absurd (true≢false here.1) | inr other ↦ absurd (other.0 refl) ];
  kept = λ v ne e. slice_get-set_other got pivot v false ne ∙ h.kept v e;
  got = λ v ne e. slice_get-set_other got pivot v false ne ∙ h.got v e;
  only = λ v e. elim (in_cases got pivot v false e) [ inl here ↦ absurd (true≢false here.1) | inr other ↦ h.only v other.1 ];
}

-- one more place that isn't seen, in front
pub unseen_more : (lits : List Lit) (marks : List Bool) (place end : ℕ) (l : Lit) → AreUnseen lits marks (place + 1) end → slice_get lits place ≡ Some l → (IsIn marks l.var.0 → ⊥) → AreUnseen lits marks place end
unseen_more lits marks place end l h at out other le lt seen =
    elim (cases_lt place other) [
      | inl behind ↦ h other (omega arith) lt seen
      | inr here ↦
          let same : place ≡ other = omega arith in
          let e : l ≡ seen.lit = same_Some l seen.lit (sym at ∙ ap (slice_get lits) same ∙ seen.lit_at) in
          out (subst (λ (k : Lit). IsIn marks k.var.0) (sym e) seen.seen)
    ]

-- what a test of a place's variable tells
pub seen_here : (lits : List Lit) (marks : List Bool) (place : ℕ) (d : Lit) → place < length lits → get_or marks (get_or lits place d).var.0 false ≡ true → IsSeenAt lits marks place
seen_here lits marks place d lt e = record {
  lit = get_or lits place d;
  lit_at = slice_get-get_or lits place d lt;
  seen = slice_get_from_get_or marks (get_or lits place d).var.0 false true e false≢true;
}

pub unseen_here : (lits : List Lit) (marks : List Bool) (place end : ℕ) (d : Lit) → AreUnseen lits marks (place + 1) end → place < length lits → get_or marks (get_or lits place d).var.0 false ≡ false → AreUnseen lits marks place end
unseen_here lits marks place end d h lt e =
    unseen_more lits marks place end (get_or lits place d) h (slice_get-get_or lits place d lt) (λ in'. absurd (false≢true (sym e ∙ get_or_from_slice_get marks (get_or lits place d).var.0 true false in')))

-- what isn't seen up to a place and from it on
pub unseen_join : (lits : List Lit) (marks : List Bool) (from middle end : ℕ) → AreUnseen lits marks from middle → AreUnseen lits marks middle end → AreUnseen lits marks from end
unseen_join lits marks from middle end front back place le lt seen =
    elim (cases_lt place middle) [ inl before ↦ front place le before seen | inr behind ↦ back place behind lt seen ]
