-- What the last clause of a proof reaches, node by node from the last one down, and that it has no model.
use Rattle.std.proofs.Common.{◌≡◌, ◌↔◌, ◌⊎◌, ℕ, zero, suc, ◌+◌, ◌-◌, ◌<◌, ◌≤◌, Bool, true, false, List, [], ◌∷◌, ◌++◌, length, get_or, set, take, replicate, slice_get, Some, inl, inr, refl, sym, ap, ◌∙◌, subst, arith, Any, Contains}
use Rattle.std.proofs.lemmas.Bool.{cases_eq, cases_lt, false≢true}
use Rattle.std.proofs.lemmas.List.{take_more, take_all, length-replicate, get_or-set_same, get_or-set_other, get_or-take, length-take}
use Rattle.std.proofs.lemmas.List.Elements.{Contains-append_left, Contains-push_cases}
use Rattle.std.proofs.lemmas.List.Quantifiers.{Any-push}
use Rattle.std.proofs.lemmas.Option.{same_Some, slice_get_within, slice_get-get_or}
use Rattle.eco_lists.proofs.Places.{All_at, item_at, slice_get-front}
use Rattle.eco_trace.specs.declared.clause.Lit.{Lit}
use Rattle.eco_trace.specs.declared.clause.Var.{Var}
use Rattle.eco_trace.specs.declared.node.NodeId.{NodeId}
use Rattle.eco_trace.specs.declared.node.Link.{Link}
use Rattle.eco_trace.specs.Clauses.{IsClause, Valuation}
use Rattle.eco_trace.specs.Resolution.{IsResolvent, Derives, Learnt, Proof, IsLegal, EndsEmpty, clauses_before, clauses_of}
use Rattle.eco_trace.specs.Split.{IsModelOf}
use Rattle.eco_trace.specs.Core.{Names, Uses, Reaches, IsSet, IsCore, last_of}
use Rattle.eco_trace.specs.Core.Reaches.{itself, next}
use Rattle.eco_trace.proofs.ProofLaws.{HoldsAsClause, resolvent_holds}
use Rattle.eco_trace.proofs.NodeLaws.{before_at, clause_of_learnt, length_all, chain_before}

-- what holds of an element of the front, and of one of a longer list
Any-left : {X : Type 0} (P : X → Type 0) (xs ys : List X) → Any P xs → Any P (xs ++ ys)
Any-left P xs ys a =
    let m = Contains-append_left xs ys a.1 (a.0, a.2, a.3) in
    (m.0, a.1, m.1, m.2, a.4)

Any-pushed : {X : Type 0} (P : X → Type 0) (xs : List X) (y : X) → Any P (xs ++ y ∷ []) → Any P xs ⊎ P y
Any-pushed P xs y a =
    elim (Contains-push_cases xs y a.1 (a.0, a.2, a.3)) [ inl m ↦ inl (m.0, a.1, m.1, m.2, a.4) | inr same ↦ inr (subst P (sym same) a.4) ]

-- a mark stands within the list
set_within : (marks : List Bool) (k : ℕ) → IsSet marks k → k < length marks
set_within [] k is = absurd (false≢true is)
set_within (m ∷ marks) zero is = omega arith
set_within (m ∷ marks) (suc k) is = let within = set_within marks k is in omega arith

-- one mark is set
pub set_one : (marks : List Bool) (i k : ℕ) → i < length marks → IsSet (set marks i true) k ↔ (IsSet marks k ⊎ (i ≡ k))
set_one marks i k within =
    elim (cases_eq k i) [
      | inl same ↦ (λ is. inr (sym same), λ o. subst (IsSet (set marks i true)) (sym same) (get_or-set_same marks i true false within))
      | inr other ↦
          let here : get_or (set marks i true) k false ≡ get_or marks k false = get_or-set_other marks i k true false other in
          (λ is. inl (sym here ∙ is), λ o. elim o [ inl is ↦ here ∙ is | inr same ↦ absurd (other (sym same)) ])
    ]

-- no mark is set at first
pub none_set : (n k : ℕ) → IsSet (replicate n false) k → ⊥
none_set zero k is = false≢true is
none_set (suc n) zero is = false≢true is
none_set (suc n) (suc k) is = none_set n k is

-- the node of a chain is a learnt one, and what the chain names stands before it
uses_before : (p : Proof) (node used : ℕ) → IsLegal p → Uses p node used → used < node
uses_before p node used legal u =
    let before = chain_before p u.place u.learnt legal u.at in
    let place = u.node_is in
    elim u.names [
      | inl same ↦ let start = before.0 in omega (arith, start, place, same)
      | inr a ↦
          let lt = before.1 a.0 a.1 a.2 in
          let read : (get_or u.learnt.links a.0 a.1).with.0 ≡ used = ap (λ (l : Link). l.with.0) a.3 ∙ a.4 in
          omega (arith, lt, place, read)
    ]

uses_within : (p : Proof) (node used : ℕ) → Uses p node used → node < length (clauses_of p)
uses_within p node used u =
    let within = slice_get_within p.learnt u.place u.learnt u.at in
    let place = u.node_is in
    omega (arith, within, place, length_all p)

-- the marks so far: all nodes from `done` on are treated
pub record IsReaching (p : Proof) (marks : List Bool) (done : ℕ) : Type 0 where
  pub count : length marks ≡ length (clauses_of p)
  pub sound : (k : ℕ) → IsSet marks k → Reaches p (last_of p) k
  pub last : IsSet marks (last_of p)
  pub closed : (node used : ℕ) → done ≤ node → Uses p node used → IsSet marks node → IsSet marks used

-- the last node alone
pub reaching_start : (p : Proof) (none marks : List Bool) (done : ℕ) → none ≡ replicate (length (clauses_of p)) false → marks ≡ set none (last_of p) true → 0 < length (clauses_of p) → length marks ≡ length (clauses_of p) → done ≡ length (clauses_of p) → IsReaching p marks done
reaching_start p none marks done empty marked some count end =
    let long : length none ≡ length (clauses_of p) = ap (λ (list : List Bool). length list) empty ∙ length-replicate (length (clauses_of p)) false in
    let free : (k : ℕ) → IsSet none k → ⊥ = λ k is. none_set (length (clauses_of p)) k (subst (λ (list : List Bool). IsSet list k) empty is) in
    let one : (k : ℕ) → IsSet marks k ↔ (IsSet none k ⊎ (last_of p ≡ k)) = λ k. subst (λ (list : List Bool). IsSet list k ↔ (IsSet none k ⊎ (last_of p ≡ k))) (sym marked) (set_one none (last_of p) k (omega (arith, long, some))) in
    record {
      count = count;
      sound = λ k is. elim ((one k).0 is) [ inl old ↦ absurd (free k old) | inr same ↦ subst (Reaches p (last_of p)) same itself ];
      last = (one (last_of p)).1 (inr refl);
      closed = λ node used le u is. absurd (let within = uses_within p node used u in omega (arith, within, le, end));
    }

-- a node that is reached, whose chain's nodes were marked
pub reaching_more : (p : Proof) (old new : List Bool) (done node : ℕ) → IsLegal p → node + 1 ≡ done → IsSet old node → length new ≡ length old → ((k : ℕ) → IsSet new k ↔ (IsSet old k ⊎ Uses p node k)) → IsReaching p old done → IsReaching p new node
reaching_more p old new done node legal step is_set same marked is = record {
  count = same ∙ is.count;
  sound = λ k s. elim ((marked k).0 s) [ inl o ↦ is.sound k o | inr u ↦ next node k u (is.sound node is_set) ];
  last = (marked (last_of p)).1 (inl is.last);
  closed = λ m used le u s. elim ((marked m).0 s) [
    | inl o ↦ elim (cases_eq m node) [
      | inl here ↦ (marked used).1 (inr (subst (λ (i : ℕ). Uses p i used) here u))
      | inr other ↦ (marked used).1 (inl (is.closed m used (omega (arith, le, other, step)) u o))
    ]
    | inr named ↦ absurd (let before = uses_before p node m legal named in omega (arith, before, le))
  ];
}

-- a node that is not
pub reaching_same : (p : Proof) (marks : List Bool) (done node : ℕ) → node + 1 ≡ done → (IsSet marks node → ⊥) → IsReaching p marks done → IsReaching p marks node
reaching_same p marks done node step free is = record {
  count = is.count;
  sound = is.sound;
  last = is.last;
  closed = λ m used le u s. elim (cases_eq m node) [
    | inl here ↦ absurd (free (subst (IsSet marks) here s))
    | inr other ↦ is.closed m used (omega (arith, le, other, step)) u s
  ];
}

-- all learnt nodes are treated: what is reached is marked
reached_marked : (p : Proof) (marks : List Bool) (done : ℕ) → done ≤ length p.originals → IsReaching p marks done → (k : ℕ) → Reaches p (last_of p) k → IsSet marks k
reached_marked p marks done le is k itself = is.last
reached_marked p marks done le is k (next node used u r) =
    let place = u.node_is in
    is.closed node used (omega (arith, place, le)) u (reached_marked p marks done le is node r)

pub reaching_end : (p : Proof) (marks : List Bool) (done : ℕ) → done ≤ length p.originals → IsReaching p marks done → (k : ℕ) → IsSet marks k ↔ Reaches p (last_of p) k
reaching_end p marks done le is k = (is.sound k, reached_marked p marks done le is k)

-- the marks of the clauses that the proof begins with
pub core_of_reached : (p : Proof) (all marks : List Bool) → length all ≡ length (clauses_of p) → ((k : ℕ) → IsSet all k ↔ Reaches p (last_of p) k) → marks ≡ take (length p.originals) all → IsCore p marks
core_of_reached p all marks count reached cut = record {
  count = short;
  reached = λ k. (
    λ is.
        let within : k < length p.originals = (let lt = set_within marks k is in omega (arith, lt, short)) in
        (within, (reached k).0 (sym (front k within) ∙ is)),
    λ o. front k o.0 ∙ (reached k).1 o.1,
  );
}
  where
    short : length marks ≡ length p.originals
    short = ap (λ (list : List Bool). length list) cut ∙ omega (arith, length-take (length p.originals) all, count, length_all p)

    front : (k : ℕ) → k < length p.originals → get_or marks k false ≡ get_or all k false
    front k lt = ap (λ (list : List Bool). get_or list k false) cut ∙ get_or-take (length p.originals) all k false lt

-- what the chain of a learnt node names, by the chain's parts
pub uses_by : (p : Proof) (node k : ℕ) (start : NodeId) (links : List Link) → length p.originals ≤ node → (n : Learnt) → slice_get p.learnt (node - length p.originals) ≡ Some n → n.start ≡ start → n.links ≡ links → Uses p node k ↔ Names start links k
uses_by p node k start links le n at first second = (
  λ u.
      let node_is = u.node_is in
      let place : u.place ≡ node - length p.originals = omega (arith, node_is) in
      let same : u.learnt ≡ n = same_Some u.learnt n (sym u.at ∙ ap (slice_get p.learnt) place ∙ at) in
      subst (λ (ls : List Link). Names start ls k) second (subst (λ (s : NodeId). Names s n.links k) first (subst (λ (l : Learnt). Names l.start l.links k) same u.names)),
  λ names. record {
    place = node - length p.originals;
    node_is = omega (arith, le);
    learnt = n;
    at = at;
    names = subst (λ (s : NodeId). Names s n.links k) (sym first) (subst (λ (ls : List Link). Names start ls k) (sym second) names);
  },
)

-- the first of a chain's nodes, and one more of them
pub named_start : (start : NodeId) (links : List Link) (old : List Bool) → start.0 < length old → (k : ℕ) → IsSet (set old start.0 true) k ↔ (IsSet old k ⊎ Names start (take 0 links) k)
named_start start links old within k =
    let one = set_one old start.0 k within in (
      λ is. elim (one.0 is) [ inl o ↦ inl o | inr same ↦ inr (inl same) ],
      λ o. elim o [ inl o ↦ one.1 (inl o) | inr names ↦ elim names [ inl same ↦ one.1 (inr same) | inr a ↦ absurd (let lt = a.2 in omega (arith, lt)) ] ],
    )

pub named_more : (start : NodeId) (links : List Link) (i : ℕ) (d : Link) (old marks : List Bool) → i < length links → (get_or links i d).with.0 < length marks → ((k : ℕ) → IsSet marks k ↔ (IsSet old k ⊎ Names start (take i links) k)) → (k : ℕ) → IsSet (set marks (get_or links i d).with.0 true) k ↔ (IsSet old k ⊎ Names start (take (i + 1) links) k)
named_more start links i d old marks lt within so_far k =
    let link = get_or links i d in
    let one = set_one marks link.with.0 k within in
    let P : Link → Type 0 = λ l. l.with.0 ≡ k in
    subst (λ (ls : List Link). IsSet (set marks link.with.0 true) k ↔ (IsSet old k ⊎ Names start ls k)) (sym (take_more links i d lt)) (
      λ is. elim (one.0 is) [
        | inl o ↦ elim ((so_far k).0 o) [
          | inl older ↦ inl older
          | inr names ↦ elim names [ inl same ↦ inr (inl same) | inr a ↦ inr (inr (Any-left P (take i links) (link ∷ []) a)) ]
        ]
        | inr same ↦ inr (inr (Any-push P (take i links) link same))
      ],
      λ o. elim o [
        | inl older ↦ one.1 (inl ((so_far k).1 (inl older)))
        | inr names ↦ elim names [
          | inl same ↦ one.1 (inl ((so_far k).1 (inr (inl same))))
          | inr a ↦ elim (Any-pushed P (take i links) link a) [
            | inl before ↦ one.1 (inl ((so_far k).1 (inr (inr before))))
            | inr same ↦ one.1 (inr same)
          ]
        ]
      ],
    )

pub named_all : (start : NodeId) (links : List Link) (i : ℕ) (old marks : List Bool) → length links ≤ i → ((k : ℕ) → IsSet marks k ↔ (IsSet old k ⊎ Names start (take i links) k)) → (k : ℕ) → IsSet marks k ↔ (IsSet old k ⊎ Names start links k)
named_all start links i old marks le so_far k = subst (λ (ls : List Link). IsSet marks k ↔ (IsSet old k ⊎ Names start ls k)) (take_all i links le) (so_far k)

-- what resolution keeps, a chain keeps that begins with a clause that has it and resolves with such clauses
derives_by : (Q : List Lit → Type 0) (keeps : (left right : List Lit) (pivot : Var) (c : List Lit) → Q left → Q right → IsResolvent left right pivot c → Q c) (before : List (List Lit)) (begin : List Lit) (links : List Link) (c : List Lit) → Q begin → ((link : Link) (other : List Lit) → Contains links link → slice_get before link.with.0 ≡ Some other → Q other) → Derives before begin links c → Q c
derives_by Q keeps before begin [] c q each e = subst Q e q
derives_by Q keeps before begin (link ∷ links) c q each (between, linked, more) =
    let other = each link linked.other (0, omega arith, refl) linked.other_at in
    derives_by Q keeps before between links c (keeps begin linked.other link.pivot between q other linked.resolvent) (λ l o m. each l o (suc m.0, (let lt = m.1 in omega arith), m.2)) more

-- each clause that is reached holds where the marked ones do
reached_hold : (p : Proof) (marks : List Bool) (v : Valuation) → IsLegal p → IsCore p marks → IsModelOf (record { clauses = p.originals; marks = marks }) true v → (n k : ℕ) (clause : List Lit) → k < n → Reaches p (last_of p) k → slice_get (clauses_of p) k ≡ Some clause → HoldsAsClause v clause
reached_hold p marks v legal core model zero k clause lt r at = absurd (omega arith)
reached_hold p marks v legal core model (suc n) k clause lt r at =
    elim (cases_lt k (length p.originals)) [
      | inl first ↦
          let here : slice_get p.originals k ≡ Some clause = sym (slice_get-front p.originals _ k first) ∙ at in
          let is = (core.reached k).1 (first, r) in
          let mark : slice_get marks k ≡ Some true = slice_get-get_or marks k false (set_within marks k is) ∙ ap Some is in
          (All_at IsClause p.originals k clause legal.originals here, model clause (k, here, mark))
      | inr behind ↦
          let i = k - length p.originals in
          let within = slice_get_within (clauses_of p) k clause at in
          let item = item_at p.learnt i (omega (arith, within, behind, length_all p)) in
          let node : k ≡ length p.originals + i = omega (arith, behind) in
          let same : item.0.clause ≡ clause = same_Some item.0.clause clause (sym (clause_of_learnt p i item.0 item.1) ∙ ap (slice_get (clauses_of p)) (sym node) ∙ at) in
          let gives = legal.chains i item.0 item.1 in
          let ids = chain_before p i item.0 legal item.1 in
          let used_by : (used : ℕ) → Names item.0.start item.0.links used → Reaches p (last_of p) used =
          λ used names. next k used (record { place = i; node_is = node; learnt = item.0; at = item.1; names = names }) r in
          let begin = reached_hold p marks v legal core model n item.0.start.0 gives.begin (let start = ids.0 in omega (arith, start, node, lt)) (used_by item.0.start.0 (inl refl)) (before_at p i item.0.start.0 gives.begin gives.begin_at) in
          subst (HoldsAsClause v) same (derives_by (HoldsAsClause v) (resolvent_holds v) (clauses_before p i) gives.begin item.0.links item.0.clause begin (λ link other m there.
          let before = ids.1 m.0 link m.1 in
          let read : (get_or item.0.links m.0 link).with.0 ≡ link.with.0 = ap (λ (l : Link). l.with.0) m.2 in
          reached_hold p marks v legal core model n link.with.0 other (omega (arith, before, read, node, lt)) (used_by link.with.0 (inr (m.0, link, m.1, m.2, refl))) (before_at p i link.with.0 other there)) gives.derives)
    ]

-- so the marked clauses of a refutation have no model
pub core_refuted : (p : Proof) (marks : List Bool) (v : Valuation) → IsLegal p → EndsEmpty p → IsCore p marks → IsModelOf (record { clauses = p.originals; marks = marks }) true v → ⊥
core_refuted p marks v legal ends core model =
    let held = (reached_hold p marks v legal core model (suc (last_of p)) (last_of p) [] (omega arith) itself ends).1 in
    let within = held.2 in
    omega (arith, within)

-- one of two facts, said by another that holds just where it does
pub iff_or : {A B C D : Type 0} → (A ↔ (B ⊎ C)) → (D ↔ C) → (A ↔ (B ⊎ D))
iff_or f g = (λ a. elim (f.0 a) [ inl b ↦ inl b | inr c ↦ inr (g.1 c) ], λ o. f.1 (elim o [ inl b ↦ inl b | inr d ↦ inr (g.0 d) ]))
