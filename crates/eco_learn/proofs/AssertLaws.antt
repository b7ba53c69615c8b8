-- Where a learnt clause forces a literal, and what a proof has learnt.
use Rattle.std.proofs.Common.{◌≡◌, ◌≢◌, ℕ, ◌+◌, ◌<◌, ◌≤◌, inl, inr, Bool, true, false, ◌&&◌, eqb, max, List, [], ◌∷◌, ◌++◌, Option, Some, None, length, take, refl, sym, ap, ◌∙◌, subst, arith}
use mathlib.Core.Bool.{beq}
use Rattle.std.specs.List.{slice_get, Contains}
use Rattle.std.proofs.lemmas.Bool.{false≢true, cases_lt, cases_order, eqb-true, eq-eqb, and_parts}
use Rattle.std.proofs.lemmas.List.Elements.{Contains-push, Contains-push_cases, Contains-append_left}
use Rattle.std.proofs.lemmas.Option.{slice_get_within, same_Some}
use Rattle.eco_lists.proofs.Members.{Contains_first}
use Rattle.eco_lists.proofs.Places.{All_from_places, place_of, Contains_at, place_in_front, slice_get-take}
use Rattle.eco_lists.proofs.Tests.{beq_same, beq_own}
use Rattle.eco_trace.specs.declared.clause.Var.{Var}
use Rattle.eco_trace.specs.declared.clause.Lit.{Lit}
use Rattle.eco_trace.specs.declared.node.NodeId.{NodeId}
use Rattle.eco_trace.specs.declared.node.Link.{Link}
use Rattle.eco_trace.specs.Clauses.{IsClause, complement}
use Rattle.eco_trace.specs.Freshness.{Lacks}
use Rattle.eco_trace.specs.Resolution.{Proof, Gives, Learns, clauses_of}
use Rattle.eco_trace.proofs.ClauseLaws.{same_var, clause_one, complement_twice}
use Rattle.eco_learn.specs.Trails.{Known, end_of, lits_at, IsTrail, IsLevelAt}
use Rattle.eco_learn.specs.Lessons.{Adds, IsAsserting}
use Rattle.eco_learn.specs.Marks.{IsIn, IsSeenAt, AreUnseen, IsChosen, IsSoFar, IsPoint, IsLast, IsLastOf, IsAbove}
use Rattle.eco_learn.proofs.ChoiceLaws.{same_at}

-- two literals are one by the test of their variables and signs
pub lit_same : (a b : Lit) → true ≡ (eqb a.var.0 b.var.0 && beq a.positive b.positive) → a ≡ b
lit_same a b e =
    let parts = and_parts (eqb a.var.0 b.var.0) (beq a.positive b.positive) (sym e) in
    let var : a.var ≡ b.var = same_var a.var b.var (eqb-true a.var.0 b.var.0 parts.0) in
    let sign : a.positive ≡ b.positive = beq_same a.positive b.positive parts.1 in
    let of : Var → Bool → Lit = λ v p. record { var = v; positive = p } in
    ap (λ (v : Var). of v a.positive) var ∙ ap (λ (p : Bool). of b.var p) sign

pub lit_other : (a b : Lit) → false ≡ (eqb a.var.0 b.var.0 && beq a.positive b.positive) → a ≢ b
lit_other a b e same =
    let test : Lit → Bool = λ x. eqb x.var.0 b.var.0 && beq x.positive b.positive in
    let own : test b ≡ true = ap (λ (t : Bool). t && beq b.positive b.positive) (eq-eqb b.var.0 b.var.0 refl) ∙ beq_own b.positive in
    false≢true (e ∙ ap test same ∙ own)

-- one more literal of a clause: the one that is left out, the first other, or one more other
pub last_same : (lits done : List Lit) (l other : Lit) (last : Option ℕ) → other ≡ l → IsLastOf lits done l last → IsLastOf lits (done ++ other ∷ []) l last
last_same lits done l other None e h = λ x m. elim (Contains-push_cases done other x m) [ inl old ↦ h x old | inr new ↦ sym new ∙ e ]
last_same lits done l other (Some place) e h = record {
  other = h.other;
  member = Contains-append_left done (other ∷ []) h.other h.member;
  different = h.different;
  other_at = h.other_at;
  upto = λ x m ne. elim (Contains-push_cases done other x m) [ inl old ↦ h.upto x old ne | inr new ↦ absurd (ne (sym new ∙ e)) ];
}

-- a place is among those up to it and beyond
upto_in : (lits : List Lit) (place most : ℕ) (x : Lit) → slice_get lits place ≡ Some x → place ≤ most → Contains (take (most + 1) lits) x
upto_in lits place most x at le = Contains_at (take (most + 1) lits) place x (slice_get-take (most + 1) lits place x (omega arith) at)

-- what is among the first is among more
upto_more : (lits : List Lit) (n m : ℕ) (x : Lit) → n ≤ m → Contains (take n lits) x → Contains (take m lits) x
upto_more lits n m x le c =
    let (i, at) = place_of (take n lits) x c in
    let front = place_in_front n lits i x at in
    Contains_at (take m lits) i x (slice_get-take m lits i x (omega (arith, front.0)) front.1)

pub last_first : (lits done : List Lit) (l other : Lit) (place : ℕ) → other ≢ l → slice_get lits place ≡ Some (complement other) → ((x : Lit) → Contains done x → x ≡ l) → IsLast lits (done ++ other ∷ []) l place
last_first lits done l other place ne at h = record {
  other = other;
  member = Contains-push done other;
  different = ne;
  other_at = at;
  upto = λ x m differ. elim (Contains-push_cases done other x m) [
    | inl old ↦ absurd (differ (h x old))
    | inr new ↦ subst (λ (k : Lit). Contains (take (place + 1) lits) (complement k)) new (upto_in lits place place (complement other) at (omega arith))
  ];
}

pub last_more : (lits done : List Lit) (l other : Lit) (known place : ℕ) → other ≢ l → slice_get lits place ≡ Some (complement other) → IsLast lits done l known → IsLast lits (done ++ other ∷ []) l (max known place)
last_more lits done l other known place ne at h =
    elim (cases_lt known place) [
      | inl lt ↦
          let e : place ≡ max known place = omega arith in
          subst (λ (n : ℕ). IsLast lits (done ++ other ∷ []) l n) e (record {
            other = other;
            member = Contains-push done other;
            different = ne;
            other_at = at;
            upto = λ x m differ. elim (Contains-push_cases done other x m) [
              | inl old ↦ upto_more lits (known + 1) (place + 1) (complement x) (omega arith) (h.upto x old differ)
              | inr new ↦ subst (λ (k : Lit). Contains (take (place + 1) lits) (complement k)) new (upto_in lits place place (complement other) at (omega arith))
            ];
          })
      | inr ge ↦
          let e : known ≡ max known place = omega arith in
          subst (λ (n : ℕ). IsLast lits (done ++ other ∷ []) l n) e (record {
            other = h.other;
            member = Contains-append_left done (other ∷ []) h.other h.member;
            different = h.different;
            other_at = h.other_at;
            upto = λ x m differ. elim (Contains-push_cases done other x m) [
              | inl old ↦ h.upto x old differ
              | inr new ↦ subst (λ (k : Lit). Contains (take (known + 1) lits) (complement k)) new (upto_in lits place known (complement other) at ge)
            ];
          })
    ]

-- before the place of its complement nothing is known of a literal
pub lacks_before : (k : Known) (x : Lit) (place end : ℕ) → IsTrail k → slice_get k.lits place ≡ Some (complement x) → end ≤ place → Lacks (take end k.lits) x
lacks_before k x place end trail at le =
    All_from_places (λ (y : Lit). y.var ≢ x.var) (take end k.lits) (λ i y at_i same.
    let front = place_in_front end k.lits i y at_i in
    let one : i ≡ place = same_at k.lits i place y (complement x) trail.apart front.1 at (ap (λ (v : Var). v.0) same) in
    absurd (omega (arith, one, front.0)))

-- levels end one behind the other
pub end_of-order : (k : Known) (i j : ℕ) → IsTrail k → i ≤ j → j < length k.marks → end_of k i ≤ end_of k j
end_of-order k i j trail le lt =
    elim (cases_lt i j) [
      | inl less ↦ let up : end_of k i < end_of k j = trail.rising i j (length k.lits) less lt in omega arith
      | inr more ↦ let same : i ≡ j = omega arith in let e = ap (end_of k) same in omega (arith, e)
    ]

-- a clause without another literal forces its one at level 0
pub asserting_alone : (k : Known) (clause : List Lit) (l : Lit) (node : NodeId) → IsTrail k → ((x : Lit) → Contains clause x → Contains k.lits (complement x)) → IsAbove k clause l → ((x : Lit) → Contains clause x → x ≡ l) → IsAsserting k clause (record { node = node; lit = l; other = l; level = 0 })
asserting_alone k clause l node trail wrong above alone = record {
  wrong = wrong;
  member = above.member;
  lower = omega (arith, above.lower);
  refuted = λ x m ne. absurd (ne (alone x m));
  lacking =
      let up = end_of-order k 0 above.level trail (omega arith) above.lower in
      lacks_before k l above.place (end_of k 0) trail above.place_at (omega (arith, up, above.from));
  other_in = above.member;
  different = λ i lt. absurd (omega arith);
  other_lacking = λ i lt. absurd (omega arith);
}

-- with others it does so at the level of the last of them
pub asserting_with : (k : Known) (clause : List Lit) (l m : Lit) (node : NodeId) (place level : ℕ) → IsTrail k → IsClause clause → ((x : Lit) → Contains clause x → Contains k.lits (complement x)) → IsAbove k clause l → IsLast k.lits clause l place → IsLevelAt k place level → slice_get k.lits place ≡ Some m → IsAsserting k clause (record { node = node; lit = l; other = complement m; level = level })
asserting_with k clause l m node place level trail formed wrong above last at m_at =
    let other : last.other ≡ complement m = sym (complement_twice last.other) ∙ ap complement (same_Some (complement last.other) m (sym last.other_at ∙ m_at)) in
    let (q, at_q) = place_of (lits_at k above.level) (complement last.other) (above.others last.other last.member last.different) in
    let front = place_in_front (end_of k above.level) k.lits q (complement last.other) at_q in
    let same_place : q ≡ place = same_at k.lits q place (complement last.other) (complement last.other) trail.apart front.1 last.other_at refl in
    let before : place < end_of k above.level = omega (arith, same_place, front.0) in
    let lower : level ≤ above.level =
    elim (cases_lt above.level level) [
      | inl higher ↦ let up = at.below above.level higher in absurd (omega (arith, up, before))
      | inr le ↦ le
    ] in
    let up = end_of-order k level above.level trail lower above.lower in
    record {
      wrong = wrong;
      member = above.member;
      lower = omega (arith, lower, above.lower);
      refuted = λ x c ne. upto_more k.lits (place + 1) (end_of k level) (complement x) (omega (arith, at.here)) (last.upto x c ne);
      lacking = lacks_before k l above.place (end_of k level) trail above.place_at (omega (arith, up, above.from));
      other_in = subst (λ (x : Lit). Contains clause x) other last.member;
      different = λ i lt e.
          let e' : last.other.var.0 ≡ l.var.0 = ap (λ (x : Lit). x.var.0) other ∙ ap (λ (v : Var). v.0) e in
          last.different (clause_one clause formed last.other l last.member above.member e');
      other_lacking = λ i lt.
          lacks_before k (complement m) place (end_of k i) trail (m_at ∙ ap Some (sym (complement_twice m))) (at.below i lt);
    }

-- the proof has learnt the clause that the marks choose
pub learnt_adds : (old new : Proof) (k : Known) (start : NodeId) (links : List Link) (marks : List Bool) → Learns old new start links → (h : IsSoFar (clauses_of old) k start links marks) → Adds old new h.clause
learnt_adds old new k start links marks learns h = record {
  learnt = record { start = start; links = links; clause = learns.clause };
  clause_is = sym (learns.only h.clause h.given);
  added = learns.added;
}

-- where nothing is marked the clause is empty
chosen_none : (lits clause : List Lit) (marks : List Bool) → IsChosen lits marks clause → AreUnseen lits marks 0 (length lits) → clause ≡ []
chosen_none lits [] marks chosen unseen = refl
chosen_none lits (x ∷ clause) marks chosen unseen =
    let told = (chosen.members x).0 (Contains_first x clause) in
    let (place, at) = place_of lits (complement x) told.0 in
    absurd (unseen place (omega arith) (slice_get_within lits place (complement x) at) (record { lit = complement x; lit_at = at; seen = told.1 }))

-- then the chain gives the empty clause
pub gives_none : (clauses : List (List Lit)) (k : Known) (start : NodeId) (links : List Link) (marks : List Bool) → IsSoFar clauses k start links marks → AreUnseen k.lits marks 0 (length k.lits) → Gives clauses start links []
gives_none clauses k start links marks h unseen =
    subst (λ (cl : List Lit). Gives clauses start links cl) (chosen_none k.lits h.clause marks h.chosen unseen) h.given

-- at a unique implication point its literal's complement became false above a level, and the others there or below
pub point_above : (k : Known) (clause : List Lit) (marks : List Bool) (place level : ℕ) (l : Lit) → IsChosen k.lits marks clause → level < length k.marks → IsPoint k marks (end_of k level) place → slice_get k.lits place ≡ Some l → IsAbove k clause (complement l)
point_above k clause marks place level l chosen lower point at =
    let same : point.seen.lit ≡ l = same_Some point.seen.lit l (sym point.seen.lit_at ∙ at) in
    record {
      member = (chosen.members (complement l)).1 (
        subst (λ (x : Lit). Contains k.lits x) (sym (complement_twice l)) (Contains_at k.lits place l at),
        subst (λ (x : Lit). IsIn marks x.var.0) same point.seen.seen,
      );
      level = level;
      lower = lower;
      place = place;
      place_at = at ∙ ap Some (sym (complement_twice l));
      from = point.from;
      others = λ x m ne.
          let told = (chosen.members x).0 m in
          let (q, at_q) = place_of k.lits (complement x) told.0 in
          let seen : IsSeenAt k.lits marks q = record { lit = complement x; lit_at = at_q; seen = told.1 } in
          elim (cases_lt q (end_of k level)) [
            | inl front ↦ Contains_at (lits_at k level) q (complement x) (slice_get-take (end_of k level) k.lits q (complement x) front at_q)
            | inr from ↦
                elim (cases_order q place) [
                  | inl one ↦
                      let e : complement x ≡ l = same_Some (complement x) l (sym at_q ∙ ap (slice_get k.lits) one ∙ at) in
                      absurd (ne (sym (complement_twice x) ∙ ap complement e))
                  | inr (inl before) ↦ absurd (point.before q from before seen)
                  | inr (inr behind) ↦ absurd (point.behind q (omega arith) (slice_get_within k.lits q (complement x) at_q) seen)
                ]
          ];
    }
