-- Clauses, judged literal by literal.
use Rattle.std.proofs.Common.{◌≡◌, ◌<◌, inl, inr, List, [], ◌∷◌, ◌++◌, length, sym, ap, ◌∙◌, subst, arith, length-append}
use Rattle.std.specs.List.{Contains}
use Rattle.std.proofs.Math.ListN.{get_or-append}
use Rattle.std.proofs.lemmas.List.Elements.{Contains-push, Contains-push_cases, Contains-append_left}
use Rattle.std.proofs.lemmas.List.Quantifiers.{Any-push}
use Rattle.eco_lists.proofs.Places.{place_of, pair_at, slice_get-push_last, slice_get-append_left}
use Rattle.std.proofs.lemmas.Option.{slice_get_within}
use Rattle.eco_trace.specs.declared.clause.Var.{Var}
use Rattle.eco_trace.specs.declared.clause.Lit.{Lit}
use Rattle.eco_trace.specs.Clauses.{IsClause, complement}
use Rattle.eco_trace.specs.Freshness.{IsSatisfiedOrUnresolved}
use Rattle.eco_learn.specs.declared.taken.Truth.{Truth}
use Rattle.eco_learn.specs.declared.taken.Truth.TheVariants.{True, False, Open}
use Rattle.eco_learn.specs.Trails.{IsTruthOf}
use Rattle.eco_scan.specs.declared.judge.Judgement.TheVariants.{Wrong}
use Rattle.eco_scan.specs.Scanning.{IsForcing, IsJudged, first_of, second_of}

-- a satisfied or unresolved clause is so with a literal more
pub unforced_more : (lits done : List Lit) (l : Lit) → IsSatisfiedOrUnresolved lits done → IsSatisfiedOrUnresolved lits (done ++ l ∷ [])
unforced_more lits done l (inl (i, x, within, at, in')) = inl (i, x, omega (arith, within, length-append done (l ∷ [])), get_or-append done (l ∷ []) x i within ∙ at, in')
unforced_more lits done l (inr two) = inr (record {
  one = two.one;
  other = two.other;
  one_in = Contains-append_left done (l ∷ []) two.one two.one_in;
  other_in = Contains-append_left done (l ∷ []) two.other two.other_in;
  different = two.different;
  one_lacking = two.one_lacking;
  other_lacking = two.other_lacking;
})

-- a literal more, where the others are all false
pub judged_first : (lits done : List Lit) (l : Lit) (t : Truth) → IsTruthOf lits l t → IsJudged lits done Wrong → IsJudged lits (done ++ l ∷ []) (first_of l t)
judged_first lits done l True truth h = inl (Any-push (Contains lits) done l truth)
judged_first lits done l False truth h = λ x m.
    elim (Contains-push_cases done l x m) [ inl old ↦ h x old | inr new ↦ subst (λ (k : Lit). Contains lits (complement k)) new truth ]
judged_first lits done l Open truth h = record {
  member = Contains-push done l;
  lacking = truth;
  others = λ x m ne. elim (Contains-push_cases done l x m) [ inl old ↦ h x old | inr new ↦ absurd (ne (sym new)) ];
}

-- a literal more, where they are but for one
pub judged_second : (lits done : List Lit) (l forced : Lit) (t : Truth) → IsClause (done ++ l ∷ []) → IsTruthOf lits l t → IsForcing lits done forced → IsJudged lits (done ++ l ∷ []) (second_of forced t)
judged_second lits done l forced True clause truth h = inl (Any-push (Contains lits) done l truth)
judged_second lits done l forced False clause truth h = record {
  member = Contains-append_left done (l ∷ []) forced h.member;
  lacking = h.lacking;
  others = λ x m ne. elim (Contains-push_cases done l x m) [ inl old ↦ h.others x old ne | inr new ↦ subst (λ (k : Lit). Contains lits (complement k)) new truth ];
}
judged_second lits done l forced Open clause truth h = inr (record {
  one = forced;
  other = l;
  one_in = Contains-append_left done (l ∷ []) forced h.member;
  other_in = Contains-push done l;
  different = λ e.
      let (i, at) = place_of done forced h.member in
      let up : forced.var.0 < l.var.0 = pair_at (λ (a b : Lit). a.var.0 < b.var.0) (done ++ l ∷ []) i (length done) forced l clause (slice_get_within done i forced at) (slice_get-append_left done (l ∷ []) i forced at) (slice_get-push_last done l) in
      let same : forced.var.0 ≡ l.var.0 = ap (λ (v : Var). v.0) e in
      absurd (omega arith);
  one_lacking = h.lacking;
  other_lacking = truth;
})
