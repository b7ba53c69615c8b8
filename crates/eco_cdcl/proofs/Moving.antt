-- A clause that comes to watch another literal, and one that forces its last literal or is wrong.
use Rattle.std.proofs.Common.{◌≡◌, ◌≢◌, ℕ, ◌+◌, ◌*◌, ◌^◌, ◌<◌, inl, inr, List, [], ◌∷◌, ◌++◌, length, take, set, slice_get, Some, sym, ap, ◌∙◌, subst, arith, All, Contains}
use Rattle.std.proofs.lemmas.Bool.{cases_eq, cases_order}
use Rattle.std.proofs.lemmas.List.{length-set}
use Rattle.std.proofs.lemmas.List.Elements.{Contains-append_right}
use Rattle.std.proofs.lemmas.Option.{same_Some, slice_get_within}
use Rattle.eco_lists.proofs.Members.{Contains_first}
use Rattle.eco_lists.proofs.Places.{All_at, set_cases, place_of, Contains_at}
use Rattle.eco_trace.specs.declared.clause.Lit.{Lit}
use Rattle.eco_trace.specs.declared.clause.Var.{Var}
use Rattle.eco_trace.specs.declared.node.NodeId.{NodeId}
use Rattle.eco_trace.specs.Clauses.{complement, IsVarWithin}
use Rattle.eco_trace.proofs.ClauseLaws.{clause_one}
use Rattle.eco_learn.specs.Trails.{Known, IsTrail, implied}
use Rattle.eco_learn.specs.Reasons.{IsReasonOf, IsWrong}
use Rattle.eco_cdcl.specs.Entries.{Watch, code_of, list_of, HasEntry, IsChanged, IsTakenOut}
use Rattle.eco_cdcl.specs.Pairs.{Two, IsOneOf}
use Rattle.eco_cdcl.specs.Watching.{IsWatched, IsBlocked, IsWalking}
use Rattle.eco_cdcl.specs.Steps.{IsAt, IsNext, IsLast}
use Rattle.eco_cdcl.proofs.ListLaws.{changed_at}
use Rattle.eco_cdcl.proofs.Truths.{code_one, code_within, lit_cases, one_sided, Contains_front}
use Rattle.eco_cdcl.proofs.Guarding.{held_moved}
use Rattle.eco_cdcl.proofs.Readiness.{has_pushed, pushed_has, blocked_pushed}
use Rattle.eco_cdcl.proofs.Walking.{seen, walk_implied, walk_true}

-- the literal that is walked for is false
walked_false : (cs : List (List Lit)) (k : Known) (done : ℕ) (pairs : List Two) (lists : List (List Watch)) (x : Lit) (at : ℕ) → IsWalking cs k done pairs lists x at → Contains k.lits (complement x)
walked_false cs k done pairs lists x at h = Contains_at k.lits done (complement x) h.here

-- the kept literal isn't the false one
kept_other : (cs : List (List Lit)) (k : Known) (done : ℕ) (pairs : List Two) (lists : List (List Watch)) (x : Lit) (at : ℕ) (node : NodeId) (other : Lit) → IsTrail k → IsWalking cs k done pairs lists x at → IsAt pairs (list_of lists x) x at node other → other ≢ x
kept_other cs k done pairs lists x at node other trail h e same =
    let single : e.two.one ≡ e.two.other = e.single same in
    let is : x ≡ e.two.one = elim e.other_in [ inl o ↦ sym same ∙ o | inr o ↦ sym same ∙ o ∙ sym single ] in
    elim (h.ready.held node.0 e.two e.two_at).apart [
      | inl d ↦ d (ap (λ (z : Lit). z.var) single)
      | inr m ↦ one_sided k trail x (subst (Contains k.lits) (sym is) m) (walked_false cs k done pairs lists x at h)
    ]

-- entries of other clauses stay where one is taken out
has_out : (old new : List (List Watch)) (x : Lit) (at : ℕ) (w : Watch) → IsChanged old new x (IsTakenOut at) → slice_get (list_of old x) at ≡ Some w → (y : Lit) (i : ℕ) → i ≢ w.node.0 → HasEntry (list_of old y) i → HasEntry (list_of new y) i
has_out old new x at w ch found y i ne (u, m, n) =
    elim (cases_eq (code_of y) (code_of x)) [
      | inr apart ↦ (u, subst (λ l. Contains l u) (sym (ch.others y apart)) m, n)
      | inl c ↦
          let one : y ≡ x = code_one y x c in
          let p = place_of (list_of old x) u (subst (λ z. Contains (list_of old z) u) one m) in
          let there : HasEntry (list_of new x) i =
          elim (cases_order p.0 at) [
            | inl is ↦
                let same : w ≡ u = same_Some w u (sym found ∙ ap (slice_get (list_of old x)) (sym is) ∙ p.1) in
                absurd (ne (sym n ∙ sym (ap (λ (z : Watch). z.node.0) same)))
            | inr (inl lt) ↦ (u, Contains_at (list_of new x) p.0 u (ch.here.front p.0 lt ∙ p.1), n)
            | inr (inr gt) ↦
                let q = ch.here.behind p.0 u gt p.1 in
                (u, Contains_at (list_of new x) q.0 u q.2, n)
          ]
          in
          subst (λ z. HasEntry (list_of new z) i) (sym one) there
    ]

blocked_out : (cs : List (List Lit)) (old new : List (List Watch)) (x : Lit) (at : ℕ) → IsChanged old new x (IsTakenOut at) → ((y : Lit) (v : Watch) → Contains (list_of old y) v → IsBlocked cs v) → (y : Lit) (v : Watch) → Contains (list_of new y) v → IsBlocked cs v
blocked_out cs old new x at ch before y v m =
    elim (changed_at old new x (IsTakenOut at) ch y) [
      | inl same ↦ before y v (subst (λ l. Contains l v) same m)
      | inr out ↦ before y v (out.members v m)
    ]

-- the clause watches another literal
pub walk_moved : (cs : List (List Lit)) (k : Known) (done : ℕ) (pairs : List Two) (lists middle new : List (List Watch)) (x : Lit) (at : ℕ) (node : NodeId) (other next : Lit) → IsTrail k → IsWalking cs k done pairs lists x at → (e : IsAt pairs (list_of lists x) x at node other) → IsNext cs k.lits node other next → IsChanged lists middle x (IsTakenOut at) → IsChanged middle new next (λ a b. b ≡ a ++ record { node = node; blocker = other } ∷ []) → IsWalking cs k done (set pairs node.0 (record { one = other; other = next; lits = e.two.lits })) new x at × (length (list_of new x) + 1 ≡ length (list_of lists x))
walk_moved cs k done pairs lists middle new x at node other next trail h e n out push =
    let w : Watch = record { node = node; blocker = other } in
    let two : Two = record { one = other; other = next; lits = e.two.lits } in
    let r = h.ready in
    let s = seen cs k done pairs lists x at node other h e in
    let clause : n.clause ≡ s.clause = same_Some n.clause s.clause (sym n.clause_at ∙ s.clause_at) in
    let next_in : Contains s.clause next = subst (λ c. Contains c next) clause n.member in
    let x_false : Contains k.lits (complement x) = walked_false cs k done pairs lists x at h in
    let next_not : next ≢ x = λ is. n.standing (subst (λ z. Contains k.lits (complement z)) (sym is) x_false) in
    let other_not : other ≢ x = kept_other cs k done pairs lists x at node other trail h e in
    let apart : other.var ≢ next.var =
    λ v. n.different (sym (clause_one s.clause s.itself other next s.member next_in (ap (λ (z : Var). z.0) v)))
    in
    let code_next : code_of x ≢ code_of next = λ c. next_not (sym (code_one x next c)) in
    let code_other : code_of other ≢ code_of x = λ c. other_not (code_one other x c) in
    let list : list_of new x ≡ list_of middle x = push.others x code_next in
    let node_is : e.watch.node.0 ≡ node.0 = ap (λ (z : NodeId). z.0) e.node_is in
    let keep : (y : Lit) (i : ℕ) → i ≢ node.0 → HasEntry (list_of lists y) i → HasEntry (list_of new y) i =
    λ y i ne has. has_pushed middle new next w push y i (has_out lists middle x at e.watch out e.watch_at y i (λ is. ne (is ∙ node_is)) has)
    in
    let old = r.watched.each node.0 e.two e.two_at in
    let here : IsWatched cs new node.0 two =
    record {
      members = λ y c o found.
          let same : s.clause ≡ c = same_Some s.clause c (sym s.clause_at ∙ found) in
          elim o [
            | inl is ↦ subst (Contains c) (sym is) (subst (λ l. Contains l other) same s.member)
            | inr is ↦ subst (Contains c) (sym is) (subst (λ l. Contains l next) same next_in)
          ];
      copied = old.copied;
      listed = λ y o. elim o [
        | inl is ↦
            let had : HasEntry (list_of middle other) node.0 =
            subst (λ l. HasEntry l node.0) (sym (out.others other code_other)) (old.listed other e.other_in)
            in
            subst (λ z. HasEntry (list_of new z) node.0) (sym is) (has_pushed middle new next w push other node.0 had)
        | inr is ↦ subst (λ z. HasEntry (list_of new z) node.0) (sym is) (pushed_has middle new next w push)
      ];
    }
    in (
      record {
        ready = record {
          formed = r.formed;
          justified = r.justified;
          wide = push.count ∙ out.count ∙ r.wide;
          watched = record {
            each = λ i p found. elim (set_cases pairs node.0 two i p found) [
              | inl is ↦ subst (λ z. IsWatched cs new i z) (sym is.1) (subst (λ m. IsWatched cs new m two) (sym is.0) here)
              | inr was ↦
                  let q = r.watched.each i p was.1 in
                  record { members = q.members; copied = q.copied; listed = λ y o. keep y i was.0 (q.listed y o) }
            ];
            blocked = blocked_pushed cs middle new next w push (record { clause = s.clause; clause_at = s.clause_at; member = s.member })
                (blocked_out cs lists middle x at out r.watched.blocked);
          };
          held = held_moved cs k.lits done pairs node.0 e.two other next r.held e.two_at e.other_in apart n.standing;
          within = r.within;
          marks_held = λ m c. held_moved cs (take m k.lits) m pairs node.0 e.two other next (r.marks_held m c) e.two_at e.other_in apart (λ f. n.standing (Contains_front m k.lits (complement next) f));
          marks_done = r.marks_done;
        };
        full = length-set pairs node.0 two ∙ h.full;
        here = h.here;
        passed = λ i p found o. elim (set_cases pairs node.0 two i p found) [
          | inl is ↦ absurd (elim (subst (λ z. IsOneOf z x) is.1 o) [ inl f ↦ other_not (sym f) | inr f ↦ next_not (sym f) ])
          | inr was ↦ elim (h.passed i p was.1 o) [
            | inl t ↦ inl t
            | inr (j, u, le, at_j, m) ↦ elim (cases_order j at) [
              | inl is ↦
                  let same : e.watch ≡ u = same_Some e.watch u (sym e.watch_at ∙ ap (slice_get (list_of lists x)) (sym is) ∙ at_j) in
                  absurd (was.0 (sym m ∙ sym (ap (λ (z : Watch). z.node.0) same) ∙ node_is))
              | inr (inl lt) ↦ absurd (omega arith)
              | inr (inr gt) ↦
                  let q = out.here.behind j u gt at_j in
                  inr (q.0, u, q.1, ap (λ l. slice_get l q.0) list ∙ q.2, m)
            ]
          ]
        ];
      },
      ap (λ l. length l + 1) list ∙ out.here.shorter,
    )

-- the clause is the reason of its last literal
pub last_reason : (cs : List (List Lit)) (k : Known) (done : ℕ) (pairs : List Two) (lists : List (List Watch)) (x : Lit) (at : ℕ) (node : NodeId) (other : Lit) → IsWalking cs k done pairs lists x at → IsAt pairs (list_of lists x) x at node other → IsLast cs k.lits node other → IsReasonOf cs k.lits other node
last_reason cs k done pairs lists x at node other h e l =
    let s = seen cs k done pairs lists x at node other h e in
    let clause : s.clause ≡ l.clause = same_Some s.clause l.clause (sym s.clause_at ∙ l.clause_at) in
    record { clause = l.clause; clause_at = l.clause_at; member = subst (λ c. Contains c other) clause s.member; others = l.others }

-- it forces this literal, and the walk goes on
pub walk_forced : (cs : List (List Lit)) (k : Known) (done : ℕ) (pairs : List Two) (lists : List (List Watch)) (x : Lit) (at : ℕ) (node : NodeId) (other : Lit) → IsTrail k → IsWalking cs k done pairs lists x at → IsAt pairs (list_of lists x) x at node other → IsLast cs k.lits node other → IsWalking cs (implied k other node) done pairs lists x (at + 1)
walk_forced cs k done pairs lists x at node other trail h e l =
    walk_true cs (implied k other node) done pairs lists x at node other
    (walk_implied cs k done pairs lists x at other node trail h (last_reason cs k done pairs lists x at node other h e l))
    e (Contains-append_right k.lits (other ∷ []) other (Contains_first other []))

-- it is wrong
pub last_wrong : (cs : List (List Lit)) (lits : List Lit) (node : NodeId) (other : Lit) → IsLast cs lits node other → Contains lits (complement other) → IsWrong cs lits node
last_wrong cs lits node other l false' = record {
  clause = l.clause;
  clause_at = l.clause_at;
  refuted = λ y m. elim (lit_cases y other) [
    | inl is ↦ subst (λ z. Contains lits (complement z)) (sym is) false'
    | inr ne ↦ l.others y m ne
  ];
}

-- a literal of a clause over the trail's variables is of one of them
pub literal_within : (vars : ℕ) (clause : List Lit) (l : Lit) → All (IsVarWithin vars) clause → Contains clause l → IsVarWithin vars l
literal_within vars clause l within member =
    let p = place_of clause l member in
    All_at (IsVarWithin vars) clause p.0 l within p.1

-- the literal that is walked for is one of the trail's variables, and its place is small
pub walked_within : (cs : List (List Lit)) (k : Known) (done : ℕ) (pairs : List Two) (lists : List (List Watch)) (x : Lit) (at : ℕ) → IsTrail k → IsWalking cs k done pairs lists x at → code_of x < 2 * k.vars + 2
walked_within cs k done pairs lists x at trail h =
    let w : IsVarWithin k.vars (complement x) = All_at (IsVarWithin k.vars) k.lits done (complement x) trail.within h.here in
    code_within k.vars x (record { first = w.first; last = w.last })

pub walked_few : (cs : List (List Lit)) (k : Known) (done : ℕ) (pairs : List Two) (lists : List (List Watch)) (x : Lit) (at : ℕ) → IsTrail k → IsWalking cs k done pairs lists x at → done + 1 < 2 ^ 32
walked_few cs k done pairs lists x at trail h =
    let lt : done < length k.lits = slice_get_within k.lits done (complement x) h.here in
    omega (arith, lt, trail.few, trail.small)
