-- How clauses begin to watch: the ones that a search begins with, and the ones that it learns.
use Rattle.std.proofs.Common.{◌≡◌, ◌≢◌, ℕ, ◌+◌, ◌*◌, ◌<◌, ◌⊎◌, inl, inr, List, [], ◌∷◌, ◌++◌, length, take, get_or, slice_get, Some, sym, ap, subst, arith, All, Contains}
use Rattle.std.proofs.lemmas.List.{take-append-le, take-take, length-take-le}
use Rattle.std.proofs.lemmas.List.Elements.{Contains-append_right}
use Rattle.std.proofs.lemmas.Option.{none-some, get_or_from_slice_get, slice_get-get_or}
use Rattle.eco_lists.proofs.Members.{Contains_first, Contains_none}
use Rattle.eco_lists.proofs.Places.{place_in_front, place_of, Contains_at, All_at}
use Rattle.eco_trace.specs.declared.clause.Lit.{Lit}
use Rattle.eco_trace.specs.declared.node.NodeId.{NodeId}
use Rattle.eco_trace.specs.Clauses.{complement, AreFormed, IsVarWithin}
use Rattle.eco_learn.specs.declared.lesson.Assertion.{Assertion}
use Rattle.eco_learn.specs.Trails.{Known, IsTrail, begun, implied, cut_to, end_of, lits_at}
use Rattle.eco_learn.specs.Reasons.{IsReasonOf}
use Rattle.eco_learn.specs.Lessons.{IsAsserting}
use Rattle.eco_cdcl.specs.Entries.{Watch, list_of}
use Rattle.eco_cdcl.specs.Watching.{IsReady}
use Rattle.eco_cdcl.specs.Steps.{MayBegin}
use Rattle.eco_cdcl.proofs.Truths.{Contains_front, not_lacking}
use Rattle.eco_cdcl.proofs.Readiness.{lower_mark}

-- nothing is known, and no clause watches
pub ready_begun : (cs : List (List Lit)) (vars : ℕ) (lists : List (List Watch)) → AreFormed (record { vars = vars; clauses = cs }) → length lists ≡ 2 * vars + 2 → ((x : Lit) → list_of lists x ≡ []) → IsReady cs (begun vars) 0 [] lists
ready_begun cs vars lists formed wide empty = record {
  formed = formed;
  justified = record { each = λ place l why at_l at_why. absurd (none-some l at_l) };
  wide = wide;
  watched = record {
    each = λ i two at. absurd (none-some two at);
    blocked = λ x w m. absurd (Contains_none w (subst (λ l. Contains l w) (empty x) m));
  };
  held = λ i two at. absurd (none-some two at);
  within = omega arith;
  marks_held = λ m c. absurd (Contains_none m c);
  marks_done = λ m c. absurd (Contains_none m c);
}

-- before anything was gone through nothing is required of a pair but that its literals are apart, or the one is true
begins : (cs : List (List Lit)) (k : Known) (done : ℕ) (node : NodeId) (clause : List Lit) (one other : Lit) → slice_get cs node.0 ≡ Some clause → Contains clause one → Contains clause other → done ≡ 0 → k.marks ≡ [] → (one.var ≢ other.var) ⊎ Contains k.lits one → MayBegin cs k done node one other
begins cs k done node clause one other at in_one in_other first marks apart = record {
  clause = clause;
  clause_at = at;
  one_in = in_one;
  other_in = in_other;
  guards = record {
    fallen = λ x o c. absurd (Contains_none (complement x) (subst (λ n. Contains (take n k.lits) (complement x)) first c));
    apart = apart;
  };
  marks_guards = λ m c. absurd (Contains_none m (subst (λ ms. Contains ms m) marks c));
}

pub unit_begins : (cs : List (List Lit)) (k : Known) (done : ℕ) (node : NodeId) (lit : Lit) → slice_get cs node.0 ≡ Some (lit ∷ []) → Contains k.lits lit → done ≡ 0 → k.marks ≡ [] → MayBegin cs k done node lit lit
unit_begins cs k done node lit at true' none marks =
    begins cs k done node (lit ∷ []) lit lit at (Contains_first lit []) (Contains_first lit []) none marks (inr true')

-- a clause that forces its literal, at the level to which the trail is cut back
pub asserted_reason : (cs : List (List Lit)) (k : Known) (clause : List Lit) (a : Assertion) → slice_get cs a.node.0 ≡ Some clause → IsAsserting k clause a → IsReasonOf cs (lits_at k a.level) a.lit a.node
asserted_reason cs k clause a at h = record { clause = clause; clause_at = at; member = h.member; others = h.refuted }

pub asserted_within : (k : Known) (clause : List Lit) (a : Assertion) → IsTrail k → IsAsserting k clause a → All (IsVarWithin k.vars) clause
asserted_within k clause a trail h = λ i d lt.
    let x : Lit = get_or clause i d in
    let p = place_of k.lits (complement x) (h.wrong x (Contains_at clause i x (slice_get-get_or clause i d lt))) in
    let w : IsVarWithin k.vars (complement x) = All_at (IsVarWithin k.vars) k.lits p.0 (complement x) trail.within p.1 in
    record { first = w.first; last = w.last }

pub asserted_begins : (cs : List (List Lit)) (k : Known) (clause : List Lit) (a : Assertion) → IsTrail k → slice_get cs a.node.0 ≡ Some clause → IsAsserting k clause a → MayBegin cs (implied (cut_to k a.level) a.lit a.node) (end_of k a.level) a.node a.lit a.other
asserted_begins cs k clause a trail at h =
    let low : List Lit = lits_at k a.level in
    let now : List Lit = low ++ a.lit ∷ [] in
    let true' : Contains now a.lit = Contains-append_right low (a.lit ∷ []) a.lit (Contains_first a.lit []) in
    let m0 : ℕ = end_of k a.level in
    let mark : slice_get k.marks a.level ≡ Some m0 = slice_get-get_or k.marks a.level (length k.lits) h.lower in
    let ends : m0 < length k.lits = All_at (λ m. m < length k.lits) k.marks a.level m0 trail.marked mark in
    let long : length low ≡ m0 = length-take-le m0 k.lits (omega arith) in
    record {
      clause = clause;
      clause_at = at;
      one_in = h.member;
      other_in = h.other_in;
      guards = record {
        fallen = λ x o c. record { clause = clause; clause_at = at; lit = a.lit; member = h.member; holds = true' };
        apart = inr true';
      };
      marks_guards = λ m c.
          let p = place_of (take a.level k.marks) m c in
          let q = place_in_front a.level k.marks p.0 m p.1 in
          let is : end_of k p.0 ≡ m = get_or_from_slice_get k.marks p.0 m (length k.lits) q.1 in
          let lt : m < m0 = (lower_mark k a.level m trail h.lower c).1 in
          let front : take m now ≡ take m low = take-append-le m low (a.lit ∷ []) (omega arith) in
          let older : take m low ≡ take m k.lits = take-take m m0 k.lits (omega arith) in
          let known : (y : Lit) → Contains (take m (take m now)) y → Contains (take m low) y = λ y z. subst (λ ls. Contains ls y) front (Contains_front m (take m now) y z) in
          record {
            fallen = λ x o c. elim o [
              | inl e ↦ absurd (not_lacking low a.lit (complement x) h.lacking (Contains_front m low (complement x) (known (complement x) c)) (ap (λ (z : Lit). z.var) e))
              | inr e ↦
                  let there : Contains (lits_at k p.0) (complement x) = subst (λ n. Contains (take n k.lits) (complement x)) (sym is) (subst (λ ls. Contains ls (complement x)) older (known (complement x) c)) in
                  absurd (not_lacking (lits_at k p.0) a.other (complement x) (h.other_lacking p.0 q.0) there (ap (λ (z : Lit). z.var) e))
            ];
            apart = inl (λ e. h.different p.0 q.0 (sym e));
          };
    }
