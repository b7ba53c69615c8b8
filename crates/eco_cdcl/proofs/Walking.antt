-- A walk through the entries of a literal that has become false.
use Rattle.std.proofs.Common.{◌≡◌, ℕ, ◌+◌, ◌<◌, ◌≤◌, inl, inr, List, [], ◌∷◌, ◌++◌, length, take, slice_get, slice_set, Some, refl, sym, ap, ◌∙◌, subst, arith, All, Contains}
use Rattle.std.proofs.lemmas.Bool.{cases_eq}
use Rattle.std.proofs.lemmas.List.{length-set}
use Rattle.std.proofs.lemmas.Option.{same_Some, slice_get_within}
use Rattle.std.proofs.Math.Numerals.{add-one}
use Rattle.eco_lists.proofs.Places.{All_at, item_at, set_cases, push_cases, place_of, Contains_at, slice_get-append_left, slice_get-set_same, slice_get-set_other, take_at_more}
use Rattle.eco_trace.specs.declared.clause.Lit.{Lit}
use Rattle.eco_trace.specs.declared.node.NodeId.{NodeId}
use Rattle.eco_trace.specs.Clauses.{complement, IsClause, IsVarWithin}
use Rattle.eco_trace.proofs.ClauseLaws.{complement_twice, same_complement}
use Rattle.eco_learn.specs.Trails.{Known, IsTrail, implied}
use Rattle.eco_learn.specs.Reasons.{IsReasonOf}
use Rattle.eco_cdcl.specs.Entries.{Watch, code_of, list_of, HasEntry, IsChanged}
use Rattle.eco_cdcl.specs.Pairs.{Two, IsOneOf, IsBeside}
use Rattle.eco_cdcl.specs.Watching.{HasTrue, AreWatched, IsBlocked, IsReady, IsWalking}
use Rattle.eco_cdcl.specs.Steps.{IsAt}
use Rattle.eco_cdcl.proofs.ListLaws.{changed_at}
use Rattle.eco_cdcl.proofs.Truths.{code_one}
use Rattle.eco_cdcl.proofs.Guarding.{true_longer}
use Rattle.eco_cdcl.proofs.Readiness.{ready_implied}

-- at its beginning
pub walk_begin : (cs : List (List Lit)) (k : Known) (done : ℕ) (pairs : List Two) (lists : List (List Watch)) (l : Lit) → IsReady cs k done pairs lists → length pairs ≡ length cs → slice_get k.lits done ≡ Some l → IsWalking cs k done pairs lists (complement l) 0
walk_begin cs k done pairs lists l h full at = record {
  ready = h;
  full = full;
  here = at ∙ ap Some (sym (complement_twice l));
  passed = λ i two found o.
      let e = (h.watched.each i two found).listed (complement l) o in
      let p = place_of (list_of lists (complement l)) e.0 e.1 in
      inr (p.0, e.0, omega arith, p.1, e.2);
}

-- past an entry whose clause holds
pub walk_on : (cs : List (List Lit)) (k : Known) (done : ℕ) (pairs : List Two) (lists : List (List Watch)) (x : Lit) (at : ℕ) (w : Watch) → IsWalking cs k done pairs lists x at → slice_get (list_of lists x) at ≡ Some w → HasTrue cs k.lits w.node.0 → IsWalking cs k done pairs lists x (at + 1)
walk_on cs k done pairs lists x at w h found true' = record {
  ready = h.ready;
  full = h.full;
  here = h.here;
  passed = λ i two p o. elim (h.passed i two p o) [
    | inl t ↦ inl t
    | inr (j, v, le, at_j, node) ↦ elim (cases_eq at j) [
      | inr ne ↦ inr (j, v, omega arith, at_j, node)
      | inl e ↦
          let same : w ≡ v = same_Some w v (sym found ∙ ap (slice_get (list_of lists x)) e ∙ at_j) in
          inl (subst (HasTrue cs k.lits) (ap (λ (z : Watch). z.node.0) same ∙ node) true')
    ]
  ];
}

-- with one more literal on the trail
pub walk_implied : (cs : List (List Lit)) (k : Known) (done : ℕ) (pairs : List Two) (lists : List (List Watch)) (x : Lit) (at : ℕ) (l : Lit) (node : NodeId) → IsTrail k → IsWalking cs k done pairs lists x at → IsReasonOf cs k.lits l node → IsWalking cs (implied k l node) done pairs lists x at
walk_implied cs k done pairs lists x at l node trail h r = record {
  ready = ready_implied cs k done pairs lists l node trail h.ready r;
  full = h.full;
  here = slice_get-append_left k.lits (l ∷ []) done (complement x) h.here;
  passed = λ i two p o. elim (h.passed i two p o) [ inl t ↦ inl (true_longer cs k.lits (l ∷ []) i t) | inr e ↦ inr e ];
}

-- at its end
pub walk_end : (cs : List (List Lit)) (k : Known) (done : ℕ) (pairs : List Two) (lists : List (List Watch)) (x : Lit) (at : ℕ) → IsWalking cs k done pairs lists x at → length (list_of lists x) ≤ at → IsReady cs k (done + 1) pairs lists
walk_end cs k done pairs lists x at h past =
    let front : take (done + 1) k.lits ≡ take done k.lits ++ complement x ∷ [] =
    ap (λ n. take n k.lits) (add-one done) ∙ take_at_more k.lits done (complement x) h.here
    in
    let r = h.ready in
    record {
      formed = r.formed;
      justified = r.justified;
      wide = r.wide;
      watched = r.watched;
      held = λ i two found.
          let g = r.held i two found in
          record {
            fallen = λ y o c.
                let p = place_of (take done k.lits ++ complement x ∷ []) (complement y) (subst (λ ls. Contains ls (complement y)) front c) in
                elim (push_cases (take done k.lits) (complement x) p.0 (complement y) p.1) [
                  | inl old ↦ g.fallen y o (Contains_at (take done k.lits) p.0 (complement y) old)
                  | inr new ↦
                      let same : y ≡ x = same_complement y x new.1 in
                      elim (h.passed i two found (subst (IsOneOf two) same o)) [
                        | inl t ↦ t
                        | inr (j, w, le, at_j, node) ↦ absurd (omega (arith, le, past, slice_get_within (list_of lists x) j w at_j))
                      ]
                ];
            apart = g.apart;
          };
      within = omega (arith, slice_get_within k.lits done (complement x) h.here);
      marks_held = r.marks_held;
      marks_done = λ m c. omega (arith, r.marks_done m c);
    }

-- the node of an entry has a pair
pub entry_node : (cs : List (List Lit)) (k : Known) (done : ℕ) (pairs : List Two) (lists : List (List Watch)) (x : Lit) (at : ℕ) (w : Watch) → IsWalking cs k done pairs lists x at → slice_get (list_of lists x) at ≡ Some w → w.node.0 < length pairs
entry_node cs k done pairs lists x at w h found =
    let b = h.ready.watched.blocked x w (Contains_at (list_of lists x) at w found) in
    omega (arith, h.full, slice_get_within cs w.node.0 b.clause b.clause_at)

-- the blocker of an entry is a literal of the trail's variables, and where it is true the clause holds
pub blocker_within : (cs : List (List Lit)) (k : Known) (done : ℕ) (pairs : List Two) (lists : List (List Watch)) (x : Lit) (at : ℕ) (w : Watch) → IsWalking cs k done pairs lists x at → slice_get (list_of lists x) at ≡ Some w → IsVarWithin k.vars w.blocker
blocker_within cs k done pairs lists x at w h found =
    let b = h.ready.watched.blocked x w (Contains_at (list_of lists x) at w found) in
    let p = place_of b.clause w.blocker b.member in
    All_at (IsVarWithin k.vars) b.clause p.0 w.blocker (All_at (All (IsVarWithin k.vars)) cs w.node.0 b.clause h.ready.formed.within b.clause_at) p.1

pub blocker_true : (cs : List (List Lit)) (k : Known) (done : ℕ) (pairs : List Two) (lists : List (List Watch)) (x : Lit) (at : ℕ) (w : Watch) → IsWalking cs k done pairs lists x at → slice_get (list_of lists x) at ≡ Some w → Contains k.lits w.blocker → HasTrue cs k.lits w.node.0
blocker_true cs k done pairs lists x at w h found true' =
    let b = h.ready.watched.blocked x w (Contains_at (list_of lists x) at w found) in
    record { clause = b.clause; clause_at = b.clause_at; lit = w.blocker; member = b.member; holds = true' }

-- the clause that an entry's pair watches, with the literal kept
pub record IsSeen (cs : List (List Lit)) (k : Known) (node : NodeId) (other : Lit) : Type 0 where
  pub clause : List Lit
  pub clause_at : slice_get cs node.0 ≡ Some clause
  pub itself : IsClause clause
  pub within : All (IsVarWithin k.vars) clause
  pub member : Contains clause other
  pub other_within : IsVarWithin k.vars other

pub seen : (cs : List (List Lit)) (k : Known) (done : ℕ) (pairs : List Two) (lists : List (List Watch)) (x : Lit) (at : ℕ) (node : NodeId) (other : Lit) → IsWalking cs k done pairs lists x at → IsAt pairs (list_of lists x) x at node other → IsSeen cs k node other
seen cs k done pairs lists x at node other h e =
    let lt : node.0 < length pairs = slice_get_within pairs node.0 e.two e.two_at in
    let item = item_at cs node.0 (omega (arith, h.full)) in
    let member : Contains item.0 other = (h.ready.watched.each node.0 e.two e.two_at).members other item.0 e.other_in item.1 in
    let within : All (IsVarWithin k.vars) item.0 = All_at (All (IsVarWithin k.vars)) cs node.0 item.0 h.ready.formed.within item.1 in
    let p = place_of item.0 other member in
    record {
      clause = item.0;
      clause_at = item.1;
      itself = All_at IsClause cs node.0 item.0 h.ready.formed.clauses_all item.1;
      within = within;
      member = member;
      other_within = All_at (IsVarWithin k.vars) item.0 p.0 other within p.1;
    }

-- past an entry whose kept literal is true
pub walk_true : (cs : List (List Lit)) (k : Known) (done : ℕ) (pairs : List Two) (lists : List (List Watch)) (x : Lit) (at : ℕ) (node : NodeId) (other : Lit) → IsWalking cs k done pairs lists x at → IsAt pairs (list_of lists x) x at node other → Contains k.lits other → IsWalking cs k done pairs lists x (at + 1)
walk_true cs k done pairs lists x at node other h e true' =
    let s = seen cs k done pairs lists x at node other h e in
    let t : HasTrue cs k.lits node.0 = record { clause = s.clause; clause_at = s.clause_at; lit = other; member = s.member; holds = true' } in
    walk_on cs k done pairs lists x at e.watch h e.watch_at (subst (λ (n : NodeId). HasTrue cs k.lits n.0) (sym e.node_is) t)

-- an entry with another blocker
set_entry : (old new : List Watch) (at : ℕ) (w v : Watch) → new ≡ slice_set old at w → slice_get old at ≡ Some v → v.node ≡ w.node → (k : ℕ) (u : Watch) → slice_get old k ≡ Some u → (t : Watch) × (slice_get new k ≡ Some t) × (t.node ≡ u.node)
set_entry old new at w v e found same k u here =
    elim (cases_eq k at) [
      | inl is ↦
          let there : slice_get old at ≡ Some u = ap (slice_get old) (sym is) ∙ here in
          let one : v ≡ u = same_Some v u (sym found ∙ there) in
          (w, ap (slice_get new) is ∙ ap (λ l. slice_get l at) e ∙ slice_get-set_same old at w (slice_get_within old at v found), sym same ∙ ap (λ (z : Watch). z.node) one)
      | inr ne ↦ (u, ap (λ l. slice_get l k) e ∙ slice_get-set_other old at k w ne ∙ here, refl)
    ]

pub walk_refreshed : (cs : List (List Lit)) (k : Known) (done : ℕ) (pairs : List Two) (lists new : List (List Watch)) (x : Lit) (at : ℕ) (node : NodeId) (other : Lit) → IsWalking cs k done pairs lists x at → IsAt pairs (list_of lists x) x at node other → IsChanged lists new x (λ a b. b ≡ slice_set a at (record { node = node; blocker = other })) → IsWalking cs k done pairs new x at × IsAt pairs (list_of new x) x at node other × (length (list_of new x) ≡ length (list_of lists x))
walk_refreshed cs k done pairs lists new x at node other h e ch =
    let w : Watch = record { node = node; blocker = other } in
    let How : List Watch → List Watch → Type 0 = λ a b. b ≡ slice_set a at w in
    let s = seen cs k done pairs lists x at node other h e in
    let list : List Watch = list_of lists x in
    let within : at < length list = slice_get_within list at e.watch e.watch_at in
    let move : (i : ℕ) (u : Watch) → slice_get list i ≡ Some u → (t : Watch) × (slice_get (list_of new x) i ≡ Some t) × (t.node ≡ u.node) =
    set_entry list (list_of new x) at w e.watch ch.here e.watch_at e.node_is
    in
    let r = h.ready in
    let keep : (y : Lit) (i : ℕ) → HasEntry (list_of lists y) i → HasEntry (list_of new y) i =
    λ y i (u, m, n).
    elim (cases_eq (code_of y) (code_of x)) [
      | inr ne ↦ (u, subst (λ l. Contains l u) (sym (ch.others y ne)) m, n)
      | inl c ↦
          let one : y ≡ x = code_one y x c in
          let p = place_of list u (subst (λ z. Contains (list_of lists z) u) one m) in
          let t = move p.0 u p.1 in
          subst (λ z. HasEntry (list_of new z) i) (sym one) (t.0, Contains_at (list_of new x) p.0 t.0 t.1, ap (λ (z : NodeId). z.0) t.2 ∙ n)
    ]
    in
    let block : (y : Lit) (v : Watch) → Contains (list_of new y) v → IsBlocked cs v =
    λ y v m.
    elim (changed_at lists new x How ch y) [
      | inl same ↦ r.watched.blocked y v (subst (λ l. Contains l v) same m)
      | inr how ↦
          let p = place_of (slice_set (list_of lists y) at w) v (subst (λ l. Contains l v) how m) in
          elim (set_cases (list_of lists y) at w p.0 v p.1) [
            | inl here ↦ subst (IsBlocked cs) (sym here.1) (record { clause = s.clause; clause_at = s.clause_at; member = s.member })
            | inr old ↦ r.watched.blocked y v (Contains_at (list_of lists y) p.0 v old.1)
          ]
    ]
    in
    let here = move at e.watch e.watch_at in (
      record {
        ready = record {
          formed = r.formed;
          justified = r.justified;
          wide = ch.count ∙ r.wide;
          watched = record {
            each = λ i two found.
                let q = r.watched.each i two found in
                record { members = q.members; copied = q.copied; listed = λ y o. keep y i (q.listed y o) };
            blocked = block;
          };
          held = r.held;
          within = r.within;
          marks_held = r.marks_held;
          marks_done = r.marks_done;
        };
        full = h.full;
        here = h.here;
        passed = λ i two p o. elim (h.passed i two p o) [
          | inl t ↦ inl t
          | inr (j, u, le, at_j, n) ↦
              let t = move j u at_j in
              inr (j, t.0, le, t.1, ap (λ (z : NodeId). z.0) t.2 ∙ n)
        ];
      },
      record {
        watch = here.0;
        watch_at = here.1;
        node_is = here.2 ∙ e.node_is;
        two = e.two;
        two_at = e.two_at;
        other_in = e.other_in;
        single = e.single;
      },
      ap length ch.here ∙ length-set list at w,
    )

-- an entry that a walk has come to, with the pair of its clause
pub node_in : (cs : List (List Lit)) (k : Known) (done : ℕ) (pairs : List Two) (lists : List (List Watch)) (x : Lit) (at : ℕ) (node : NodeId) → IsWalking cs k done pairs lists x at → (w : Watch) × (slice_get (list_of lists x) at ≡ Some w) × (w.node ≡ node) → node.0 < length pairs
node_in cs k done pairs lists x at node h (w, found, is) =
    subst (λ (n : NodeId). n.0 < length pairs) is (entry_node cs k done pairs lists x at w h found)

pub looked_at : (cs : List (List Lit)) (k : Known) (done : ℕ) (pairs : List Two) (lists : List (List Watch)) (x : Lit) (at : ℕ) (node : NodeId) (other : Lit) → (w : Watch) × (slice_get (list_of lists x) at ≡ Some w) × (w.node ≡ node) → IsBeside pairs node.0 x other → IsAt pairs (list_of lists x) x at node other
looked_at cs k done pairs lists x at node other e b = record {
  watch = e.0;
  watch_at = e.1;
  node_is = e.2;
  two = b.two;
  two_at = b.two_at;
  other_in = b.one_of;
  single = b.single;
}

-- the literal that is kept is of one of the trail's variables
pub kept_within : (cs : List (List Lit)) (k : Known) (done : ℕ) (pairs : List Two) (lists : List (List Watch)) (x : Lit) (at : ℕ) (node : NodeId) (other : Lit) → IsWalking cs k done pairs lists x at → (w : Watch) × (slice_get (list_of lists x) at ≡ Some w) × (w.node ≡ node) → IsBeside pairs node.0 x other → IsVarWithin k.vars other
kept_within cs k done pairs lists x at node other h e b =
    (seen cs k done pairs lists x at node other h (looked_at cs k done pairs lists x at node other e b)).other_within

-- the copy of a clause is the clause
pub copied_at : (cs : List (List Lit)) (pairs : List Two) (lists : List (List Watch)) (i : ℕ) (lits : List Lit) → AreWatched cs pairs lists → length pairs ≡ length cs → i < length cs → ((two : Two) → slice_get pairs i ≡ Some two → lits ≡ two.lits) → slice_get cs i ≡ Some lits
copied_at cs pairs lists i lits h full lt read =
    let item = item_at cs i lt in
    let pair = item_at pairs i (omega arith) in
    item.1 ∙ ap Some (sym (read pair.0 pair.1 ∙ (h.each i pair.0 pair.1).copied item.0 item.1))
