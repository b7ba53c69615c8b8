-- One step of resolution on a trail: what it needs, and what it does to the marks.
use Rattle.std.proofs.Common.{◌≡◌, ◌≢◌, ℕ, ◌+◌, ◌<◌, inl, inr, zero, suc, Bool, true, false, List, [], Some, None, length, take, replicate, refl, sym, ap, ◌∙◌, subst, arith}
use Rattle.std.specs.List.{slice_get, All, AllPairs, Contains}
use Rattle.std.proofs.lemmas.Bool.{false≢true, cases_eq}
use Rattle.std.proofs.lemmas.List.Elements.{All-contains}
use Rattle.std.proofs.lemmas.Option.{none-some, same_Some}
use Rattle.eco_lists.proofs.Places.{All_from_places, place_of, Contains_at, place_in_front}
use Rattle.eco_trace.specs.declared.clause.Lit.{Lit}
use Rattle.eco_trace.specs.declared.node.NodeId.{NodeId}
use Rattle.eco_trace.specs.declared.node.Link.{Link}
use Rattle.eco_trace.specs.Clauses.{IsClause, IsVarWithin, complement}
use Rattle.eco_trace.specs.Resolution.{Derives}
use Rattle.eco_trace.proofs.ClauseLaws.{same_complement}
use Rattle.eco_learn.specs.Trails.{Known, IsTrail}
use Rattle.eco_learn.specs.Reasons.{IsReasonAt, IsJustified}
use Rattle.eco_learn.specs.Marks.{IsIn, HasGot, IsSeenAt, AreUnseen, IsChosen, IsSoFar, IsStep, IsWalked}
use Rattle.eco_learn.proofs.ChoiceLaws.{same_at, same_in, front_in}

-- the variable of a literal that is taken is within, and of one whose complement is
pub lit_within : (k : Known) (x : Lit) → IsTrail k → Contains k.lits x → x.var.0 < k.vars + 1
lit_within k x trail m =
    let w : IsVarWithin k.vars x = All-contains (IsVarWithin k.vars) k.lits x trail.within m in
    omega (arith, w.last)

-- so are the variables of a clause all of whose literals are false, and of a reason
pub wrong_within : (k : Known) (clause : List Lit) (n : ℕ) → IsTrail k → ((x : Lit) → Contains clause x → Contains k.lits (complement x)) → n ≡ k.vars + 1 → All (λ l. l.var.0 < n) clause
wrong_within k clause n trail wrong e = All_from_places (λ (l : Lit). l.var.0 < n) clause (λ i l at.
    let lt : l.var.0 < k.vars + 1 = lit_within k (complement l) trail (wrong l (Contains_at clause i l at)) in
    omega (arith, lt, e))

pub reason_within : (clauses : List (List Lit)) (k : Known) (place : ℕ) (node : NodeId) (clause : List Lit) (n : ℕ) → IsTrail k → IsReasonAt clauses k.lits place node → slice_get clauses node.0 ≡ Some clause → n ≡ k.vars + 1 → All (λ l. l.var.0 < n) clause
reason_within clauses k place node clause n trail why at e = All_from_places (λ (l : Lit). l.var.0 < n) clause (λ i l at_i.
    let same : clause ≡ why.reason.clause = same_Some clause why.reason.clause (sym at ∙ why.reason.clause_at) in
    let m : Contains why.reason.clause l = subst (λ (c : List Lit). Contains c l) same (Contains_at clause i l at_i) in
    elim (cases_eq l.var.0 why.lit.var.0) [
      | inl own ↦
          let lt = lit_within k why.lit trail (Contains_at k.lits place why.lit why.lit_at) in
          omega (arith, lt, own, e)
      | inr other ↦
          let lt : l.var.0 < k.vars + 1 = lit_within k (complement l) trail (front_in place k.lits (complement l) (why.reason.others l m (λ f. other (ap (λ (x : Lit). x.var.0) f)))) in
          omega (arith, lt, e)
    ])

-- behind the place nothing is seen after the step, if nothing was before
pub step_behind : (clauses : List (List Lit)) (k : Known) (place end : ℕ) (node : NodeId) (old new : List Bool) → IsTrail k → IsReasonAt clauses k.lits place node → IsStep clauses k.lits place node old new → AreUnseen k.lits old (place + 1) end → AreUnseen k.lits new place end
step_behind clauses k place end node old new trail why step behind other le lt seen =
    let here : why.lit ≡ step.lit = same_Some why.lit step.lit (sym why.lit_at ∙ step.lit_at) in
    let differ : seen.lit.var.0 ≢ step.lit.var.0 = λ e. absurd (step.turned.lost (subst (λ (n : ℕ). IsIn new n) e seen.seen)) in
    let later : other ≢ place = λ e.
    let at : slice_get k.lits place ≡ Some seen.lit = ap (slice_get k.lits) (sym e) ∙ seen.lit_at in
    absurd (differ (ap (λ (x : Lit). x.var.0) (same_Some seen.lit step.lit (sym at ∙ step.lit_at))))
    in
    elim (step.turned.only seen.lit.var.0 seen.seen) [
      | inl before ↦ behind other (omega (arith, later)) lt (record { lit = seen.lit; lit_at = seen.lit_at; seen = before })
      | inr has ↦
          let same : step.clause ≡ why.reason.clause = same_Some step.clause why.reason.clause (sym step.clause_at ∙ why.reason.clause_at) in
          let m : Contains why.reason.clause has.lit = subst (λ (c : List Lit). Contains c has.lit) same has.member in
          let ne : has.lit ≢ why.lit = λ e. absurd (differ (sym has.variable ∙ ap (λ (x : Lit). x.var.0) (e ∙ here))) in
          let (p, at) = place_of (take place k.lits) (complement has.lit) (why.reason.others has.lit m ne) in
          let front = place_in_front place k.lits p (complement has.lit) at in
          let one : p ≡ other = same_at k.lits p other (complement has.lit) seen.lit trail.apart front.1 seen.lit_at has.variable in
          absurd (omega (arith, one, front.0))
    ]

-- what was seen before the place still is
pub step_before : (clauses : List (List Lit)) (k : Known) (place other : ℕ) (node : NodeId) (old new : List Bool) → IsTrail k → IsStep clauses k.lits place node old new → other < place → IsSeenAt k.lits old other → IsSeenAt k.lits new other
step_before clauses k place other node old new trail step lt seen = record {
  lit = seen.lit;
  lit_at = seen.lit_at;
  seen = step.turned.kept seen.lit.var.0 (λ e.
      let one : other ≡ place = same_at k.lits other place seen.lit step.lit trail.apart seen.lit_at step.lit_at e in
      absurd (omega arith)) seen.seen;
}

-- the reason of a place, and a place without one
pub reason_at : (clauses : List (List Lit)) (k : Known) (place : ℕ) (l : Lit) (node : NodeId) → IsJustified clauses k → slice_get k.lits place ≡ Some l → slice_get k.reasons place ≡ Some (Some node) → IsReasonAt clauses k.lits place node
reason_at clauses k place l node h at why = record { lit = l; lit_at = at; reason = h.each place l (Some node) at why }

pub decision_at : (clauses : List (List Lit)) (k : Known) (place : ℕ) (l : Lit) → IsJustified clauses k → slice_get k.lits place ≡ Some l → slice_get k.reasons place ≡ Some None → Contains k.marks place
decision_at clauses k place l h at none = h.each place l None at none

-- the clause that is wrong is what its variables choose
pub wrong_chosen : (lits clause : List Lit) (none marks : List Bool) → AllPairs (λ a b. a.var ≢ b.var) lits → IsClause clause → ((x : Lit) → Contains clause x → Contains lits (complement x)) → ((v : ℕ) → IsIn none v → ⊥) → HasGot none clause marks → IsChosen lits marks clause
wrong_chosen lits clause none marks apart formed wrong empty got = record {
  clause_itself = formed;
  members = λ x. (
    λ m. (wrong x m, got.got x.var.0 (record { lit = x; member = m; variable = refl })),
    λ m. elim (got.only x.var.0 m.1) [
      | inl old ↦ absurd (empty x.var.0 old)
      | inr has ↦
          let same : complement has.lit ≡ complement x = same_in lits (complement has.lit) (complement x) apart (wrong has.lit has.member) m.0 has.variable in
          subst (λ (k : Lit). Contains clause k) (same_complement has.lit x same) has.member
    ],
  );
}

-- nothing is in a set that was made empty
pub none_marked : (n : ℕ) (v : ℕ) → IsIn (replicate n false) v → ⊥
none_marked zero v e = none-some true e
none_marked (suc n) zero e = false≢true (same_Some false true e)
none_marked (suc n) (suc v) e = none_marked n v e

-- a chain without links gives its first clause
pub wrong_so_far : (clauses : List (List Lit)) (k : Known) (start : NodeId) (clause : List Lit) (links : List Link) (none marks : List Bool) → IsTrail k → length none ≡ k.vars + 1 → ((v : ℕ) → IsIn none v → ⊥) → links ≡ [] → slice_get clauses start.0 ≡ Some clause → IsClause clause → ((x : Lit) → Contains clause x → Contains k.lits (complement x)) → HasGot none clause marks → IsSoFar clauses k start links marks
wrong_so_far clauses k start clause links none marks trail long empty bare at formed wrong got = record {
  long = got.long ∙ long;
  clause = clause;
  given = record { begin = clause; begin_at = at; derives = subst (λ (ls : List Link). Derives clauses clause ls clause) (sym bare) refl };
  chosen = wrong_chosen k.lits clause none marks trail.apart formed wrong empty got;
}

-- a literal that is left out takes no mark with it but its own, so the point stays
pub walked_without : (clauses : List (List Lit)) (k : Known) (place other : ℕ) (node : NodeId) (clause : List Lit) (old new : List Bool) → IsTrail k → other ≢ place → slice_get clauses node.0 ≡ Some clause → All (λ l. IsIn old l.var.0) clause → IsStep clauses k.lits other node old new → IsWalked k old (Some place) → IsWalked k new (Some place)
walked_without clauses k place other node clause old new trail apart at covered step (level, lower, point) = (
  level,
  lower,
  record {
    from = point.from;
    seen = record {
      lit = point.seen.lit;
      lit_at = point.seen.lit_at;
      seen = step.turned.kept point.seen.lit.var.0 (λ e. absurd (apart (sym (same_at k.lits place other point.seen.lit step.lit trail.apart point.seen.lit_at step.lit_at e)))) point.seen.seen;
    };
    before = λ p le lt seen. point.before p le lt (still p seen);
    behind = λ p le lt seen. point.behind p le lt (still p seen);
  },
)
  where
    still : (p : ℕ) → IsSeenAt k.lits new p → IsSeenAt k.lits old p
    still p seen = record {
      lit = seen.lit;
      lit_at = seen.lit_at;
      seen = elim (step.turned.only seen.lit.var.0 seen.seen) [
        | inl before ↦ before
        | inr has ↦
            let same : step.clause ≡ clause = same_Some step.clause clause (sym step.clause_at ∙ at) in
            let in_old : IsIn old has.lit.var.0 = All-contains (λ (l : Lit). IsIn old l.var.0) clause has.lit covered (subst (λ (c : List Lit). Contains c has.lit) same has.member) in
            subst (λ (v : ℕ). IsIn old v) has.variable in_old
      ];
    }
