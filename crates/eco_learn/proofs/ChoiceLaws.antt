-- The clause that marks choose on a trail, and its resolvents.
use Rattle.std.proofs.Common.{◌≡◌, ◌≢◌, ◌↔◌, ℕ, zero, suc, ◌<◌, ◌⊎◌, inl, inr, Bool, true, false, List, [], ◌∷◌, ◌++◌, Some, take, refl, sym, ap, ◌∙◌, subst, arith}
use Rattle.std.specs.List.{slice_get, AllPairs, Contains}
use Rattle.std.proofs.lemmas.Bool.{false≢true, cases_lt, cases_order}
use Rattle.std.proofs.lemmas.Option.{none-some, same_Some}
use Rattle.eco_lists.proofs.Members.{Contains_first, Contains_later, Contains_cases, Contains_none, AllPairs-head, AllPairs-tail}
use Rattle.eco_lists.proofs.Places.{place_of, Contains_at, place_in_front, pair_at, pairs_cons}
use Rattle.eco_trace.specs.declared.clause.Var.{Var}
use Rattle.eco_trace.specs.declared.clause.Lit.{Lit}
use Rattle.eco_trace.specs.declared.node.NodeId.{NodeId}
use Rattle.eco_trace.specs.declared.node.Link.{Link}
use Rattle.eco_trace.specs.Clauses.{IsClause, complement}
use Rattle.eco_trace.specs.Resolution.{IsResolvent, IsLinked, Derives, Gives}
use Rattle.eco_trace.proofs.ClauseLaws.{same_var, clause_none, complement_twice, same_complement}
use Rattle.eco_learn.specs.Trails.{Known, IsTrail}
use Rattle.eco_learn.specs.Reasons.{IsReasonOf, IsReasonAt}
use Rattle.eco_learn.specs.Marks.{IsIn, HasTurned, IsSeenAt, IsChosen, IsSoFar}

-- two literals of one variable stand at one place of a trail, so they are one
pub same_at : (lits : List Lit) (i j : ℕ) (a b : Lit) → AllPairs (λ a b. a.var ≢ b.var) lits → slice_get lits i ≡ Some a → slice_get lits j ≡ Some b → a.var.0 ≡ b.var.0 → i ≡ j
same_at lits i j a b apart at_i at_j e =
    elim (cases_order i j) [
      | inl same ↦ same
      | inr (inl lt) ↦ absurd (pair_at (λ (a b : Lit). a.var ≢ b.var) lits i j a b apart lt at_i at_j (same_var a.var b.var e))
      | inr (inr gt) ↦ absurd (pair_at (λ (a b : Lit). a.var ≢ b.var) lits j i b a apart gt at_j at_i (same_var b.var a.var (sym e)))
    ]

pub same_in : (lits : List Lit) (a b : Lit) → AllPairs (λ a b. a.var ≢ b.var) lits → Contains lits a → Contains lits b → a.var.0 ≡ b.var.0 → a ≡ b
same_in lits a b apart in_a in_b e =
    let (i, at_i) = place_of lits a in_a in
    let (j, at_j) = place_of lits b in_b in
    let same : i ≡ j = same_at lits i j a b apart at_i at_j e in
    same_Some a b (sym at_i ∙ ap (slice_get lits) same ∙ at_j)

-- what is in the front of a list is in it
pub front_in : (n : ℕ) (lits : List Lit) (x : Lit) → Contains (take n lits) x → Contains lits x
front_in n lits x m =
    let (i, at) = place_of (take n lits) x m in
    Contains_at lits i x (place_in_front n lits i x at).1

-- a variable is in the set or not
pub in_or_out : (marks : List Bool) (v : ℕ) → IsIn marks v ⊎ (IsIn marks v → ⊥)
in_or_out [] v = inr (λ e. absurd (none-some true e))
in_or_out (true ∷ marks) zero = inl refl
in_or_out (false ∷ marks) zero = inr (λ e. absurd (false≢true (same_Some false true e)))
in_or_out (b ∷ marks) (suc v) = in_or_out marks v

-- a clause with one literal more
put : (x : Lit) (c : List Lit) → IsClause c → ((y : Lit) → Contains c y → y.var.0 ≢ x.var.0) → (d : List Lit) × IsClause d × ((y : Lit) → Contains d y ↔ (Contains c y ⊎ (y ≡ x)))
put x [] h other = (x ∷ [], one, λ y. (λ m. elim (Contains_cases x y [] m) [ inl e ↦ inr (sym e) | inr none ↦ inl none ], λ m. elim m [ inl none ↦ absurd (Contains_none y none) | inr e ↦ subst (λ (l : Lit). Contains (x ∷ []) l) (sym e) (Contains_first x []) ]))
  where
    one : IsClause (x ∷ [])
    one i j d lt within = absurd (omega arith)
put x (z ∷ c) h other =
    elim (cases_lt x.var.0 z.var.0) [
      | inl lt ↦ (
        x ∷ z ∷ c,
        pairs_cons (λ (k l : Lit). k.var.0 < l.var.0) x (z ∷ c) h (λ y m. elim (Contains_cases z y c m) [
          | inl e ↦ subst (λ (l : Lit). x.var.0 < l.var.0) e lt
          | inr later ↦ let up : z.var.0 < y.var.0 = AllPairs-head (λ (k l : Lit). k.var.0 < l.var.0) z c h y later in omega arith
        ]),
        λ y. (
          λ m. elim (Contains_cases x y (z ∷ c) m) [ inl e ↦ inr (sym e) | inr old ↦ inl old ],
          λ m. elim m [ inl old ↦ Contains_later x y (z ∷ c) old | inr e ↦ subst (λ (l : Lit). Contains (x ∷ z ∷ c) l) (sym e) (Contains_first x (z ∷ c)) ],
        ),
      )
      | inr ge ↦
          let rest = put x c (AllPairs-tail (λ (k l : Lit). k.var.0 < l.var.0) z c h) (λ y m. other y (Contains_later z y c m)) in
          let ne : z.var.0 ≢ x.var.0 = other z (Contains_first z c) in
          let members : (y : Lit) → Contains rest.0 y ↔ (Contains c y ⊎ (y ≡ x)) = rest.2 in (
            z ∷ rest.0,
            pairs_cons (λ (k l : Lit). k.var.0 < l.var.0) z rest.0 rest.1 (λ y m. elim ((members y).0 m) [
              | inl old ↦ AllPairs-head (λ (k l : Lit). k.var.0 < l.var.0) z c h y old
              | inr e ↦ subst (λ (l : Lit). z.var.0 < l.var.0) (sym e) (omega (arith, ne))
            ]),
            λ y. (
              λ m. elim (Contains_cases z y rest.0 m) [
                | inl e ↦ inl (subst (λ (l : Lit). Contains (z ∷ c) l) e (Contains_first z c))
                | inr later ↦ elim ((members y).0 later) [ inl old ↦ inl (Contains_later z y c old) | inr e ↦ inr e ]
              ],
              λ m. elim m [
                | inl old ↦ elim (Contains_cases z y c old) [
                  | inl e ↦ subst (λ (l : Lit). Contains (z ∷ rest.0) l) e (Contains_first z rest.0)
                  | inr later ↦ Contains_later z y rest.0 ((members y).1 (inl later))
                ]
                | inr e ↦ Contains_later z y rest.0 ((members y).1 (inr e))
              ],
            ),
          )
    ]

-- the clause of the literals whose complements stand in a list and whose variables are marked
pub chosen_some : (lits : List Lit) (marks : List Bool) → AllPairs (λ a b. a.var ≢ b.var) lits → (clause : List Lit) × IsChosen lits marks clause
chosen_some [] marks apart = ([], record { clause_itself = clause_none; members = λ x. (λ m. absurd (Contains_none x m), λ m. absurd (Contains_none (complement x) m.0)) })
chosen_some (l ∷ lits) marks apart =
    let tail = AllPairs-tail (λ (a b : Lit). a.var ≢ b.var) l lits apart in
    let rest = chosen_some lits marks tail in
    let clause : List Lit = rest.0 in
    let chosen : IsChosen lits marks clause = rest.1 in
    elim (in_or_out marks l.var.0) [
      | inl marked ↦ chosen_more l lits marks clause apart chosen marked
      | inr out ↦ (
        clause,
        record {
          clause_itself = chosen.clause_itself;
          members = λ x. (
            λ m. let told = (chosen.members x).0 m in (Contains_later l (complement x) lits told.0, told.1),
            λ m. elim (Contains_cases l (complement x) lits m.0) [
              | inl e ↦ absurd (out (subst (λ (k : Lit). IsIn marks k.var.0) (sym e) m.1))
              | inr later ↦ (chosen.members x).1 (later, m.1)
            ],
          );
        },
      )
    ]
  where
    chosen_more : (l : Lit) (lits : List Lit) (marks : List Bool) (clause : List Lit) → AllPairs (λ a b. a.var ≢ b.var) (l ∷ lits) → IsChosen lits marks clause → IsIn marks l.var.0 → (clause : List Lit) × IsChosen (l ∷ lits) marks clause
    chosen_more l lits marks clause apart chosen marked =
        let other : (y : Lit) → Contains clause y → y.var.0 ≢ l.var.0 = λ y m e.
        AllPairs-head (λ (a b : Lit). a.var ≢ b.var) l lits apart (complement y) ((chosen.members y).0 m).0 (same_var l.var y.var (sym e))
        in
        let more = put (complement l) clause chosen.clause_itself other in
        let members : (y : Lit) → Contains more.0 y ↔ (Contains clause y ⊎ (y ≡ complement l)) = more.2 in (
          more.0,
          record {
            clause_itself = more.1;
            members = λ x. (
              λ m. elim ((members x).0 m) [
                | inl old ↦ let told = (chosen.members x).0 old in (Contains_later l (complement x) lits told.0, told.1)
                | inr e ↦ (
                  subst (λ (k : Lit). Contains (l ∷ lits) k) (sym (ap complement e ∙ complement_twice l)) (Contains_first l lits),
                  subst (λ (k : Lit). IsIn marks k.var.0) (sym e) marked,
                )
              ],
              λ m. elim (Contains_cases l (complement x) lits m.0) [
                | inl e ↦ (members x).1 (inr (sym (complement_twice x) ∙ ap complement (sym e)))
                | inr later ↦ (members x).1 (inl ((chosen.members x).1 (later, m.1)))
              ],
            );
          },
        )

-- one link more at the end of a chain
derives_push : (before : List (List Lit)) (so_far : List Lit) (links : List Link) (last : List Lit) (link : Link) (next : List Lit) → Derives before so_far links last → IsLinked before last link next → Derives before so_far (links ++ link ∷ []) next
derives_push before so_far [] last link next d l = (next, subst (λ (c : List Lit). IsLinked before c link next) (sym d) l, refl)
derives_push before so_far (first ∷ links) last link next d l = (d.0, d.1, derives_push before d.0 links last link next d.2 l)

pub gives_push : (before : List (List Lit)) (start : NodeId) (links : List Link) (last : List Lit) (link : Link) (next : List Lit) → Gives before start links last → IsLinked before last link next → Gives before start (links ++ link ∷ []) next
gives_push before start links last link next g l = record {
  begin = g.begin;
  begin_at = g.begin_at;
  derives = derives_push before g.begin links last link next g.derives l;
}

-- where marks turn from a literal to the others of its reason, the chosen clause is resolved with the reason
pub turned_resolvent : (lits : List Lit) (marks turned : List Bool) (place : ℕ) (l : Lit) (left clause right : List Lit) → AllPairs (λ a b. a.var ≢ b.var) lits → slice_get lits place ≡ Some l → IsIn marks l.var.0 → Contains clause l → ((x : Lit) → Contains clause x → x ≢ l → Contains (take place lits) (complement x)) → HasTurned marks clause l.var.0 turned → IsChosen lits marks left → IsChosen lits turned right → IsResolvent left clause l.var right
turned_resolvent lits marks turned place l left clause right apart at marked member others h from to = record {
  opposed = record {
    lit = complement l;
    variable = refl;
    in_left = (from.members (complement l)).1 (subst (λ (k : Lit). Contains lits k) (sym (complement_twice l)) (Contains_at lits place l at), marked);
    in_right = subst (λ (k : Lit). Contains clause k) (sym (complement_twice l)) member;
  };
  clause_itself = to.clause_itself;
  members = λ x. (
    λ m.
        let told = (to.members x).0 m in
        let ne : x.var ≢ l.var = λ e. absurd (h.lost (subst (λ (v : Var). IsIn turned v.0) e told.1)) in (
          elim (h.only x.var.0 told.1) [
            | inl old ↦ inl ((from.members x).1 (told.0, old))
            | inr has ↦
                let differ : has.lit ≢ l = λ e. absurd (ne (same_var x.var l.var (sym has.variable ∙ ap (λ (k : Lit). k.var.0) e))) in
                let there : Contains lits (complement has.lit) = front_in place lits (complement has.lit) (others has.lit has.member differ) in
                let same : complement has.lit ≡ complement x = same_in lits (complement has.lit) (complement x) apart there told.0 has.variable in
                inr (subst (λ (k : Lit). Contains clause k) (same_complement has.lit x same) has.member)
          ],
          ne,
        ),
    λ (m, ne).
        let differ : x.var.0 ≢ l.var.0 = λ e. ne (same_var x.var l.var e) in
        elim m [
          | inl in_left ↦
              let told = (from.members x).0 in_left in
              (to.members x).1 (told.0, h.kept x.var.0 differ told.1)
          | inr in_right ↦
              (to.members x).1 (
                front_in place lits (complement x) (others x in_right (λ e. ne (ap (λ (k : Lit). k.var) e))),
                h.got x.var.0 differ (record { lit = x; member = in_right; variable = refl }),
              )
        ],
  );
}

-- so the chain with that link gives what is then chosen
pub so_far_step : (clauses : List (List Lit)) (k : Known) (start : NodeId) (links : List Link) (marks turned : List Bool) (place : ℕ) (node : NodeId) (l : Lit) (clause : List Lit) → IsTrail k → IsSoFar clauses k start links marks → IsReasonAt clauses k.lits place node → slice_get k.lits place ≡ Some l → slice_get clauses node.0 ≡ Some clause → IsSeenAt k.lits marks place → HasTurned marks clause l.var.0 turned → IsSoFar clauses k start (links ++ (record { pivot = l.var; with = node }) ∷ []) turned
so_far_step clauses k start links marks turned place node l clause trail h why at clause_at seen turn =
    let here : why.lit ≡ l = same_Some why.lit l (sym why.lit_at ∙ at) in
    let reason : IsReasonOf clauses (take place k.lits) l node = subst (λ (x : Lit). IsReasonOf clauses (take place k.lits) x node) here why.reason in
    let same : reason.clause ≡ clause = same_Some reason.clause clause (sym reason.clause_at ∙ clause_at) in
    let marked : IsIn marks l.var.0 = subst (λ (x : Lit). IsIn marks x.var.0) (same_Some seen.lit l (sym seen.lit_at ∙ at)) seen.seen in
    let to = chosen_some k.lits turned trail.apart in
    let chosen : IsChosen k.lits turned to.0 = to.1 in
    let resolvent : IsResolvent h.clause clause l.var to.0 =
    turned_resolvent k.lits marks turned place l h.clause clause to.0 trail.apart at marked
    (subst (λ (c : List Lit). Contains c l) same reason.member)
    (subst (λ (c : List Lit). (x : Lit) → Contains c x → x ≢ l → Contains (take place k.lits) (complement x)) same reason.others) turn h.chosen chosen
    in
    record {
      long = turn.long ∙ h.long;
      clause = to.0;
      given = gives_push clauses start links h.clause (record { pivot = l.var; with = node }) to.0 h.given (record { other = clause; other_at = clause_at; resolvent = resolvent });
      chosen = chosen;
    }
