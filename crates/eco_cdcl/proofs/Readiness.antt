-- What a search keeps, from step to step.
use Rattle.std.proofs.Common.{◌≡◌, ℕ, zero, suc, ◌<◌, ◌≤◌, ◌⊎◌, inl, inr, List, [], ◌∷◌, ◌++◌, length, take, get_or, slice_get, Some, refl, sym, ◌∙◌, subst, arith, All, Contains}
use Rattle.std.proofs.lemmas.List.{take-append-le, take_all, take-take, length-take-le, length-append}
use Rattle.std.proofs.lemmas.List.Elements.{Contains-append_left, Contains-append_right, All-push}
use Rattle.std.proofs.lemmas.Option.{same_Some, slice_get_within, slice_get-get_or}
use Rattle.eco_lists.proofs.Members.{Contains_first}
use Rattle.eco_lists.proofs.Places.{push_cases, pair_at, place_of, place_in_front, Contains_at, slice_get-append_left}
use Rattle.eco_trace.specs.declared.clause.Lit.{Lit}
use Rattle.eco_trace.specs.declared.node.NodeId.{NodeId}
use Rattle.eco_trace.specs.Clauses.{IsClause, IsVarWithin}
use Rattle.eco_learn.specs.Trails.{Known, IsTrail, decided, implied, cut_to, end_of}
use Rattle.eco_learn.specs.Reasons.{IsReasonOf}
use Rattle.eco_cdcl.specs.Entries.{Watch, list_of, HasEntry, IsChanged}
use Rattle.eco_cdcl.specs.Pairs.{Two}
use Rattle.eco_cdcl.specs.Watching.{Guards, Held, IsWatched, IsBlocked, AreWatched, IsReady}
use Rattle.eco_cdcl.proofs.ListLaws.{changed_at}
use Rattle.eco_cdcl.proofs.Guarding.{held_longer, held_grown, held_push}
use Rattle.eco_learn.proofs.Justified.{justified_decided, justified_implied, justified_cut, justified_grows}

-- the marks' guards see nothing of what comes to the trail
marks_longer : (cs : List (List Lit)) (t more : List Lit) (m : ℕ) (pairs : List Two) → m ≤ length t → Held cs (take m t) m pairs → Held cs (take m (t ++ more)) m pairs
marks_longer cs t more m pairs le h = subst (λ ls. Held cs ls m pairs) (sym (take-append-le m t more le)) h

-- a clause forces a literal
pub ready_implied : (cs : List (List Lit)) (k : Known) (done : ℕ) (pairs : List Two) (lists : List (List Watch)) (l : Lit) (node : NodeId) → IsTrail k → IsReady cs k done pairs lists → IsReasonOf cs k.lits l node → IsReady cs (implied k l node) done pairs lists
ready_implied cs k done pairs lists l node trail h r = record {
  formed = h.formed;
  justified = justified_implied cs k l node trail h.justified r;
  wide = h.wide;
  watched = h.watched;
  held = held_longer cs k.lits (l ∷ []) done pairs h.within h.held;
  within = omega (arith, h.within, length-append k.lits (l ∷ []));
  marks_held = λ m c. marks_longer cs k.lits (l ∷ []) m pairs (omega (arith, h.marks_done m c, h.within)) (h.marks_held m c);
  marks_done = h.marks_done;
}

-- a decision, once all literals were gone through
pub ready_decided : (cs : List (List Lit)) (k : Known) (done : ℕ) (pairs : List Two) (lists : List (List Watch)) (l : Lit) → IsTrail k → IsReady cs k done pairs lists → done ≡ length k.lits → IsReady cs (decided k l) done pairs lists
ready_decided cs k done pairs lists l trail h all =
    let cases : (m : ℕ) → Contains (k.marks ++ length k.lits ∷ []) m → Contains k.marks m ⊎ (m ≡ length k.lits) =
    λ m c.
    let p = place_of (k.marks ++ length k.lits ∷ []) m c in
    elim (push_cases k.marks (length k.lits) p.0 m p.1) [ inl old ↦ inl (Contains_at k.marks p.0 m old) | inr new ↦ inr new.1 ]
    in
    record {
      formed = h.formed;
      justified = justified_decided cs k l trail h.justified;
      wide = h.wide;
      watched = h.watched;
      held = held_longer cs k.lits (l ∷ []) done pairs h.within h.held;
      within = omega (arith, h.within, length-append k.lits (l ∷ []));
      marks_held = λ m c. elim (cases m c) [
        | inl old ↦ marks_longer cs k.lits (l ∷ []) m pairs (omega (arith, h.marks_done m old, h.within)) (h.marks_held m old)
        | inr e ↦
            let here : Held cs (take m k.lits) m pairs =
            subst (λ ls. Held cs ls m pairs) (sym (take_all m k.lits (omega (arith, e)))) (subst (λ n. Held cs k.lits n pairs) (all ∙ sym e) h.held)
            in
            marks_longer cs k.lits (l ∷ []) m pairs (omega (arith, e)) here
      ];
      marks_done = λ m c. elim (cases m c) [ inl old ↦ h.marks_done m old | inr e ↦ omega (arith, e, all) ];
    }

-- the end of a level below the last is a mark, and the lower levels end before it
pub mark_of : (k : Known) (level : ℕ) → level < length k.marks → Contains k.marks (end_of k level)
mark_of k level lt = (level, lt, mark_read k.marks level (length k.lits) lt)
  where
    mark_read : (ms : List ℕ) (i d : ℕ) → i < length ms → get_or ms i (get_or ms i d) ≡ get_or ms i d
    mark_read [] i d lt = absurd (omega arith)
    mark_read (m ∷ ms) zero d lt = refl
    mark_read (m ∷ ms) (suc i) d lt = mark_read ms i d (omega arith)

pub lower_mark : (k : Known) (level m : ℕ) → IsTrail k → level < length k.marks → Contains (take level k.marks) m → Contains k.marks m × (m < end_of k level)
lower_mark k level m trail lt c =
    let p = place_of (take level k.marks) m c in
    let q = place_in_front level k.marks p.0 m p.1 in
    let last : slice_get k.marks level ≡ Some (end_of k level) = slice_get-get_or k.marks level (length k.lits) lt in
    (Contains_at k.marks p.0 m q.1, pair_at (λ (a b : ℕ). a < b) k.marks p.0 level m (end_of k level) trail.rising q.0 q.1 last)

-- a cut back to the end of a level
pub ready_cut : (cs : List (List Lit)) (k : Known) (done : ℕ) (pairs : List Two) (lists : List (List Watch)) (level : ℕ) → IsTrail k → IsReady cs k done pairs lists → level < length k.marks → IsReady cs (cut_to k level) (end_of k level) pairs lists
ready_cut cs k done pairs lists level trail h lt =
    let m0 : ℕ = end_of k level in
    let mark : Contains k.marks m0 = mark_of k level lt in
    let le : m0 ≤ length k.lits = omega (arith, h.marks_done m0 mark, h.within) in
    record {
      formed = h.formed;
      justified = justified_cut cs k level trail h.justified;
      wide = h.wide;
      watched = h.watched;
      held = h.marks_held m0 mark;
      within = omega (arith, length-take-le m0 k.lits le);
      marks_held = λ m c.
          let low = lower_mark k level m trail lt c in
          subst (λ ls. Held cs ls m pairs) (sym (take-take m m0 k.lits (omega (arith, low.1)))) (h.marks_held m low.0);
      marks_done = λ m c.
          let low = lower_mark k level m trail lt c in
          omega (arith, low.1);
    }

-- one more clause
watched_grown : (cs : List (List Lit)) (c : List Lit) (pairs : List Two) (lists : List (List Watch)) → length pairs ≤ length cs → AreWatched cs pairs lists → AreWatched (cs ++ c ∷ []) pairs lists
watched_grown cs c pairs lists le h = record {
  each = λ i two at.
      let w = h.each i two at in
      let within : i < length pairs = slice_get_within pairs i two at in
      record {
        members = λ x clause o found. elim (push_cases cs c i clause found) [
          | inl old ↦ w.members x clause o old
          | inr new ↦ absurd (omega (arith, new.0, within, le))
        ];
        copied = λ clause found. elim (push_cases cs c i clause found) [
          | inl old ↦ w.copied clause old
          | inr new ↦ absurd (omega (arith, new.0, within, le))
        ];
        listed = w.listed;
      };
  blocked = λ x w m.
      let b = h.blocked x w m in
      record { clause = b.clause; clause_at = slice_get-append_left cs (c ∷ []) w.node.0 b.clause b.clause_at; member = b.member };
}

pub ready_grown : (cs : List (List Lit)) (c : List Lit) (k : Known) (done : ℕ) (pairs : List Two) (lists : List (List Watch)) → length pairs ≤ length cs → IsClause c → All (IsVarWithin k.vars) c → IsReady cs k done pairs lists → IsReady (cs ++ c ∷ []) k done pairs lists
ready_grown cs c k done pairs lists le clause within h = record {
  formed = record {
    clauses_all = All-push IsClause cs c h.formed.clauses_all clause;
    within = All-push (All (IsVarWithin k.vars)) cs c h.formed.within within;
  };
  justified = justified_grows cs k c h.justified;
  wide = h.wide;
  watched = watched_grown cs c pairs lists le h.watched;
  held = held_grown cs (c ∷ []) k.lits done pairs h.held;
  within = h.within;
  marks_held = λ m mark. held_grown cs (c ∷ []) (take m k.lits) m pairs (h.marks_held m mark);
  marks_done = h.marks_done;
}

-- a pushed entry, and the ones that were there
pub has_pushed : (old new : List (List Watch)) (x : Lit) (w : Watch) → IsChanged old new x (λ a b. b ≡ a ++ w ∷ []) → (y : Lit) (i : ℕ) → HasEntry (list_of old y) i → HasEntry (list_of new y) i
has_pushed old new x w h y i (v, m, e) =
    elim (changed_at old new x (λ a b. b ≡ a ++ w ∷ []) h y) [
      | inl same ↦ (v, subst (λ l. Contains l v) (sym same) m, e)
      | inr more ↦ (v, subst (λ l. Contains l v) (sym more) (Contains-append_left (list_of old y) (w ∷ []) v m), e)
    ]

pub pushed_has : (old new : List (List Watch)) (x : Lit) (w : Watch) → IsChanged old new x (λ a b. b ≡ a ++ w ∷ []) → HasEntry (list_of new x) w.node.0
pushed_has old new x w h =
    (w, subst (λ l. Contains l w) (sym h.here) (Contains-append_right (list_of old x) (w ∷ []) w (Contains_first w [])), refl)

pub blocked_pushed : (cs : List (List Lit)) (old new : List (List Watch)) (x : Lit) (w : Watch) → IsChanged old new x (λ a b. b ≡ a ++ w ∷ []) → IsBlocked cs w → ((y : Lit) (v : Watch) → Contains (list_of old y) v → IsBlocked cs v) → (y : Lit) (v : Watch) → Contains (list_of new y) v → IsBlocked cs v
blocked_pushed cs old new x w h here before y v m =
    elim (changed_at old new x (λ a b. b ≡ a ++ w ∷ []) h y) [
      | inl same ↦ before y v (subst (λ l. Contains l v) same m)
      | inr more ↦
          let p = place_of (list_of old y ++ w ∷ []) v (subst (λ l. Contains l v) more m) in
          elim (push_cases (list_of old y) w p.0 v p.1) [
            | inl older ↦ before y v (Contains_at (list_of old y) p.0 v older)
            | inr new ↦ subst (IsBlocked cs) (sym new.1) here
          ]
    ]

-- the next clause begins to watch
pub ready_attached : (cs : List (List Lit)) (k : Known) (done : ℕ) (pairs : List Two) (lists middle new : List (List Watch)) (node : NodeId) (clause : List Lit) (one other : Lit) → IsReady cs k done pairs lists → node.0 ≡ length pairs → slice_get cs node.0 ≡ Some clause → Contains clause one → Contains clause other → IsChanged lists middle one (λ a b. b ≡ a ++ record { node = node; blocker = other } ∷ []) → IsChanged middle new other (λ a b. b ≡ a ++ record { node = node; blocker = one } ∷ []) → Guards cs k.lits done node.0 (record { one = one; other = other; lits = clause }) → ((m : ℕ) → Contains k.marks m → Guards cs (take m k.lits) m node.0 (record { one = one; other = other; lits = clause })) → IsReady cs k done (pairs ++ record { one = one; other = other; lits = clause } ∷ []) new
ready_attached cs k done pairs lists middle new node clause one other h next at in_one in_other first second g marks =
    let two : Two = record { one = one; other = other; lits = clause } in
    let w1 : Watch = record { node = node; blocker = other } in
    let w2 : Watch = record { node = node; blocker = one } in
    let keep : (y : Lit) (i : ℕ) → HasEntry (list_of lists y) i → HasEntry (list_of new y) i =
    λ y i e. has_pushed middle new other w2 second y i (has_pushed lists middle one w1 first y i e)
    in
    record {
      formed = h.formed;
      justified = h.justified;
      wide = second.count ∙ first.count ∙ h.wide;
      watched = record {
        each = λ i p found. elim (push_cases pairs two i p found) [
          | inl old ↦
              let w = h.watched.each i p old in
              record { members = w.members; copied = w.copied; listed = λ x o. keep x i (w.listed x o) }
          | inr (here, is) ↦
              let number : node.0 ≡ i = next ∙ sym here in
              subst (λ z. IsWatched cs new i z) (sym is)
              (subst (λ n. IsWatched cs new n two) number
              (record {
                members = λ x c o found.
                    let same : clause ≡ c = same_Some clause c (sym at ∙ found) in
                    elim o [
                      | inl e ↦ subst (Contains c) (sym e) (subst (λ l. Contains l one) same in_one)
                      | inr e ↦ subst (Contains c) (sym e) (subst (λ l. Contains l other) same in_other)
                    ];
                copied = λ c found. same_Some clause c (sym at ∙ found);
                listed = λ x o. elim o [
                  | inl e ↦ subst (λ l. HasEntry (list_of new l) node.0) (sym e) (has_pushed middle new other w2 second one node.0 (pushed_has lists middle one w1 first))
                  | inr e ↦ subst (λ l. HasEntry (list_of new l) node.0) (sym e) (pushed_has middle new other w2 second)
                ];
              }))
        ];
        blocked = blocked_pushed cs middle new other w2 second (record { clause = clause; clause_at = at; member = in_one })
            (blocked_pushed cs lists middle one w1 first (record { clause = clause; clause_at = at; member = in_other }) h.watched.blocked);
      };
      held = held_push cs k.lits done pairs two h.held (subst (λ n. Guards cs k.lits done n two) next g);
      within = h.within;
      marks_held = λ m c. held_push cs (take m k.lits) m pairs two (h.marks_held m c) (subst (λ n. Guards cs (take m k.lits) m n two) next (marks m c));
      marks_done = h.marks_done;
    }
