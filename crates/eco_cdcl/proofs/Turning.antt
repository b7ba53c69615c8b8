-- What the turns of a search come to: models, clauses that are news, refutations.
use Rattle.std.proofs.Common.{◌≡◌, ◌≢◌, ℕ, ◌+◌, ◌-◌, ◌<◌, ◌≤◌, inl, inr, Bool, List, [], ◌∷◌, ◌++◌, length, map, slice_get, Some, refl, sym, ap, ◌∙◌, subst, arith, All, Any, Contains}
use Rattle.std.proofs.lemmas.List.{append-nil, length-take, length-append}
use Rattle.std.proofs.lemmas.List.Elements.{All-push}
use Rattle.std.proofs.lemmas.Option.{none-some}
use Rattle.eco_lists.proofs.Members.{Contains_none}
use Rattle.eco_lists.proofs.Places.{All_at, All_from_places, place_of, slice_get-append_left, slice_get-push_last}
use Rattle.eco_trace.specs.declared.clause.Lit.{Lit}
use Rattle.eco_trace.specs.Clauses.{Clauses, AreFormed, complement, IsClause, IsVarWithin, IsTrueIn, HoldsIn, valuation_of}
use Rattle.eco_trace.specs.Freshness.{IsSatisfiedOrUnresolved, IsNews}
use Rattle.eco_trace.specs.Resolution.{Proof, clauses_of}
use Rattle.eco_trace.specs.Verdicts.{IsModel, IsRefutation, IsRefutedWithin, IsSpent}
use Rattle.eco_learn.specs.declared.lesson.Assertion.{Assertion}
use Rattle.eco_learn.specs.Trails.{Known, IsTrail, IsWhole, end_of, lits_at}
use Rattle.eco_learn.specs.Lessons.{Adds, IsAsserting, IsAssertion}
use Rattle.eco_cdcl.specs.Entries.{Watch}
use Rattle.eco_cdcl.specs.Pairs.{Two}
use Rattle.eco_cdcl.specs.Watching.{IsReady}
use Rattle.eco_cdcl.specs.Steps.{Advances, AllHold, IsOn}
use Rattle.eco_cdcl.proofs.Truths.{Contains_front, not_lacking, one_sided}
use Rattle.eco_cdcl.proofs.Guarding.{unforced}
use Rattle.eco_cdcl.proofs.Readiness.{mark_of, ready_grown}
use Rattle.eco_cdcl.proofs.Beginning.{asserted_within}
use Rattle.eco_learn.proofs.Justified.{adds_clauses, fresh_push}

-- where each variable has a value, a clause that propagation gets nothing from holds
whole_holds : (vars : ℕ) (lits clause : List Lit) → IsWhole vars lits → All (IsVarWithin vars) clause → IsSatisfiedOrUnresolved lits clause → Any (Contains lits) clause
whole_holds vars lits clause whole within (inl holds) = holds
whole_holds vars lits clause whole within (inr two) =
    let p = place_of clause two.one two.one_in in
    elim (whole two.one (All_at (IsVarWithin vars) clause p.0 two.one within p.1)) [
      | inl m ↦ absurd (not_lacking lits two.one two.one two.one_lacking m refl)
      | inr m ↦ absurd (not_lacking lits two.one (complement two.one) two.one_lacking m refl)
    ]

-- once all literals were gone through and each variable has a value, each clause holds
pub all_hold : (p : Proof) (k : Known) (done : ℕ) (pairs : List Two) (lists : List (List Watch)) (room : ℕ) → IsOn p k done pairs lists room → done ≡ length k.lits → IsWhole k.vars k.lits → AllHold (clauses_of p) k.lits
all_hold p k done pairs lists room on all whole =
    let r = on.ready in
    let unforceds : All (IsSatisfiedOrUnresolved k.lits) (clauses_of p) = unforced (clauses_of p) k.lits done pairs lists r.held (omega arith) r.watched on.full in
    All_from_places (λ c. Any (Contains k.lits) c) (clauses_of p)
    (λ i c at. whole_holds k.vars k.lits c whole (All_at (All (IsVarWithin k.vars)) (clauses_of p) i c r.formed.within at) (All_at (IsSatisfiedOrUnresolved k.lits) (clauses_of p) i c unforceds at))

-- then the values are a model
pub model_from : (c : Clauses) (p : Proof) (lits : List Lit) (values : List Bool) → p.originals ≡ c.clauses → AllHold (clauses_of p) lits → length values ≡ c.vars → ((l : Lit) → Contains lits l → IsTrueIn (valuation_of values) l) → IsModel c values
model_from c p lits values same all long true' = record {
  complete = omega arith;
  satisfies = subst (All (HoldsIn (valuation_of values))) same
      (All_from_places (HoldsIn (valuation_of values)) p.originals
      (λ i clause at.
      let (j, l, lt, e, m) = All_at (λ c. Any (Contains lits) c) (clauses_of p) i clause all (slice_get-append_left p.originals (map (λ n. n.clause) p.learnt) i clause at) in
      (j, l, lt, e, true' l m)));
}

-- what is learnt from a conflict is news
pub news : (p : Proof) (k : Known) (done : ℕ) (pairs : List Two) (lists : List (List Watch)) (room : ℕ) (clause : List Lit) (a : Assertion) → IsTrail k → IsOn p k done pairs lists room → IsAsserting k clause a → IsNews (clauses_of p) clause
news p k done pairs lists room clause a trail on h =
    let m : ℕ = end_of k a.level in
    let known : List Lit = lits_at k a.level in
    let r = on.ready in
    let short : length known ≤ m = omega (arith, length-take m k.lits) in
    record {
      lit = a.lit;
      known = known;
      member = h.member;
      one_sided = λ l x y. one_sided k trail l (Contains_front m k.lits l x) (Contains_front m k.lits (complement l) y);
      lacking = h.lacking;
      refuted = h.refuted;
      unforced = unforced (clauses_of p) known m pairs lists (r.marks_held m (mark_of k a.level h.lower)) short r.watched on.full;
    }

-- a learnt clause that forces a literal isn't empty
some_clause : (clause : List Lit) (l : Lit) → Contains clause l → clause ≢ []
some_clause clause l m e = Contains_none l (subst (λ c. Contains c l) e m)

pub advances : (old new : Proof) (k : Known) (done : ℕ) (pairs : List Two) (lists : List (List Watch)) (room : ℕ) (a : Assertion) → IsTrail k → IsOn old k done pairs lists room → IsAssertion old new k a → Advances old new
advances old new k done pairs lists room a trail on h =
    let same = h.adds.clause_is in
    record {
      learnt = h.adds.learnt;
      added = h.adds.added;
      news = subst (IsNews (clauses_of old)) (sym same) (news old k done pairs lists room h.clause a trail on h.asserting);
      some = subst (λ c. c ≢ []) (sym same) (some_clause h.clause a.lit h.asserting.member);
    }

-- the clauses of a proof that has learnt one more
pub more_clauses : (old new : Proof) (clause : List Lit) → Adds old new clause → clauses_of new ≡ clauses_of old ++ clause ∷ []
more_clauses old new clause h = ap clauses_of h.added ∙ adds_clauses old h.learnt ∙ ap (λ c. clauses_of old ++ c ∷ []) h.clause_is

pub more_ready : (old new : Proof) (k : Known) (done : ℕ) (pairs : List Two) (lists : List (List Watch)) (room : ℕ) (a : Assertion) → IsTrail k → IsOn old k done pairs lists room → IsAssertion old new k a → All IsClause (clauses_of new) → IsReady (clauses_of new) k done pairs lists
more_ready old new k done pairs lists room a trail on h formed =
    let more = more_clauses old new h.clause h.adds in
    let at : slice_get (clauses_of new) (length (clauses_of old)) ≡ Some h.clause = ap (λ cs. slice_get cs (length (clauses_of old))) more ∙ slice_get-push_last (clauses_of old) h.clause in
    let itself : IsClause h.clause = All_at IsClause (clauses_of new) (length (clauses_of old)) h.clause formed at in
    subst (λ cs. IsReady cs k done pairs lists) (sym more)
    (ready_grown (clauses_of old) h.clause k done pairs lists (omega (arith, on.full)) itself (asserted_within k h.clause a trail h.asserting) on.ready)

pub more_at : (old new : Proof) (k : Known) (a : Assertion) → IsAssertion old new k a → (clause : List Lit) × (slice_get (clauses_of new) a.node.0 ≡ Some clause) × IsAsserting k clause a
more_at old new k a h =
    (h.clause, ap (slice_get (clauses_of new)) h.node ∙ ap (λ cs. slice_get cs (length (clauses_of old))) (more_clauses old new h.clause h.adds) ∙ slice_get-push_last (clauses_of old) h.clause, h.asserting)

-- the empty clause refutes
refutation : (c : Clauses) (old new : Proof) → old.originals ≡ c.clauses → Adds old new [] → IsRefutation c new
refutation c old new same h =
    let more = more_clauses old new [] h in
    let long : length (clauses_of new) - 1 ≡ length (clauses_of old) =
    let e : length (clauses_of new) ≡ length (clauses_of old ++ [] ∷ []) = ap length more in
    omega (arith, e, length-append (clauses_of old) ([] ∷ []))
    in
    record {
      originals = ap (λ (p : Proof). p.originals) h.added ∙ same;
      ends = ap (slice_get (clauses_of new)) long ∙ ap (λ cs. slice_get cs (length (clauses_of old))) more ∙ slice_get-push_last (clauses_of old) [];
    }

-- so it does within a limit that isn't reached yet
pub refuted_within : (c : Clauses) (n limit : ℕ) (old new : Proof) → IsSpent c n old → n < limit → Adds old new [] → IsRefutedWithin c limit new
refuted_within c n limit old new h less adds = record {
  refutation = refutation c old new h.originals adds;
  within =
      let long = ap (λ (p : Proof). length p.learnt) adds.added in
      omega (arith, long, length-append old.learnt (adds.learnt ∷ []), h.count, less);
}

-- a proof that has learnt nothing yet: its clauses are those that it begins with
pub begins_formed : (c : Clauses) (p : Proof) (vars : ℕ) → vars ≡ c.vars → p ≡ record { originals = c.clauses; learnt = [] } → AreFormed c → AreFormed (record { vars = vars; clauses = clauses_of p })
begins_formed c p vars same e formed =
    let clauses : clauses_of p ≡ c.clauses = ap clauses_of e ∙ append-nil c.clauses in
    subst (λ v. AreFormed (record { vars = v; clauses = clauses_of p })) (sym same)
    (subst (λ cs. AreFormed (record { vars = c.vars; clauses = cs })) (sym clauses) formed)

pub begins_spent : (c : Clauses) (p : Proof) → p ≡ record { originals = c.clauses; learnt = [] } → IsSpent c 0 p
begins_spent c p e = subst (IsSpent c 0) (sym e) (record { originals = refl; fresh = λ k n at. absurd (none-some n at); count = refl; unfinished = λ i d lt. absurd (omega arith) })

-- a proof that has learnt one clause more
pub spent_more : (c : Clauses) (n : ℕ) (old new : Proof) → IsSpent c n old → Advances old new → IsSpent c (n + 1) new
spent_more c n old new h a = subst (IsSpent c (n + 1)) (sym a.added) (record {
  originals = h.originals;
  fresh = fresh_push old a.learnt h.fresh a.news;
  count = omega (arith, length-append old.learnt (a.learnt ∷ []), h.count);
  unfinished = All-push (λ m. m.clause ≢ []) old.learnt a.learnt h.unfinished a.some;
})

-- where the proof is as it was, what it begins with is too
pub solved : (c : Clauses) (old new : Proof) (lits : List Lit) → old.originals ≡ c.clauses → new ≡ old → AllHold (clauses_of old) lits → (new.originals ≡ c.clauses) × AllHold (clauses_of new) lits
solved c old new lits same e all = (ap (λ (p : Proof). p.originals) e ∙ same, subst (λ (p : Proof). AllHold (clauses_of p) lits) (sym e) all)
