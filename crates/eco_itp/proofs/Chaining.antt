-- Partial interpolants along a chain, and from clause to clause.
use Rattle.std.proofs.Common.{◌≡◌, ℕ, suc, ◌+◌, ◌-◌, ◌<◌, ◌≤◌, Bool, true, false, ◌&&◌, ◌||◌, cond, List, [], ◌∷◌, ◌++◌, Option, Some, None, length, get_or, take, drop, map, inl, inr, refl, sym, ◌∙◌, ap, subst, arith, length-append}
use Rattle.std.specs.List.{slice_get}
use Rattle.std.specs.Option.{option_map}
use Rattle.std.proofs.Math.Seq.{drop-cons}
use Rattle.std.proofs.lemmas.Bool.{cases_Bool}
use Rattle.std.proofs.lemmas.List.{length-map, length-take, drop_all}
use Rattle.std.proofs.lemmas.Option.{none-some, same_Some, slice_get_within, slice_get-get_or}
use Rattle.eco_trace.specs.declared.clause.Var.{Var}
use Rattle.eco_trace.specs.declared.clause.Lit.{Lit}
use Rattle.eco_trace.specs.declared.node.NodeId.{NodeId}
use Rattle.eco_trace.specs.declared.node.Link.{Link}
use Rattle.eco_trace.specs.Resolution.{Proof, Learnt, IsLinked, Derives, Gives, IsLegal, clauses_before, clauses_of, IsLegalChain, chain_at, EndsEmpty}
use Rattle.eco_aig.specs.declared.edge.Edge.{Edge}
use Rattle.eco_aig.specs.declared.node.Node.{Node}
use Rattle.eco_aig.specs.Edges.{value_of}
use Rattle.eco_aig.specs.Graph.{HasValue, Grows, IsEdge}
use Rattle.eco_aig.proofs.Growing.{edge_stays}
use Rattle.eco_lists.proofs.Places.{push_cases}
use Rattle.eco_itp.specs.declared.parts.Parts.{Parts}
use Rattle.eco_trace.specs.Split.{Split}
use Rattle.eco_itp.specs.Between.{IsBetween}
use Rattle.eco_itp.specs.Parts.{occurs, earlier, split_of}
use Rattle.eco_itp.specs.Partial.{IsPartial, ArePartial}
use Rattle.eco_itp.proofs.Lists.{Any-nil}
use Rattle.eco_itp.proofs.Joining.{partial_resolvent, partial_stays}

-- how many stand before
pub length-earlier : (p : Parts) (n : ℕ) → length p.trace.now.originals ≤ n → n ≤ length (clauses_of p.trace.now) → length (earlier p n) ≡ n
length-earlier p n le le' =
    let proof = p.trace.now in
    let k = n - length proof.originals in
    let whole = length-append proof.originals (map (λ (n : Learnt). n.clause) proof.learnt) in
    let front = length-append proof.originals (map (λ (n : Learnt). n.clause) (take k proof.learnt)) in
    let all = length-map proof.learnt (λ (n : Learnt). n.clause) in
    let some = length-map (take k proof.learnt) (λ (n : Learnt). n.clause) in
    let cut = length-take k proof.learnt in
    omega arith

-- the learnt clause whose chain this is
pub record IsChainOf (p : Proof) (k : ℕ) (start : NodeId) (links : List Link) : Type 0 where
  pub learnt : Learnt
  pub at : slice_get p.learnt k ≡ Some learnt
  pub links_is : learnt.links ≡ links
  pub gives : Gives (clauses_before p k) start links learnt.clause

-- the proof has it
pub chain_of : (p : Proof) (k : ℕ) (start : NodeId) (links : List Link) → IsLegal p → chain_at p k ≡ Some (start, links) → IsChainOf p k start links
chain_of p k start links legal is = by_node (slice_get p.learnt k) refl is
  where
    by_node : (o : Option Learnt) → slice_get p.learnt k ≡ o → option_map {U = NodeId × List Link} (λ (n : Learnt). (n.start, n.links)) o ≡ Some (start, links) → IsChainOf p k start links
    by_node None at e = absurd (none-some (start, links) e)
    by_node (Some n) at e =
        let pair = same_Some (n.start, n.links) (start, links) e in
        let first : n.start ≡ start = ap (λ (z : NodeId × List Link). z.0) pair in
        let second : n.links ≡ links = ap (λ (z : NodeId × List Link). z.1) pair in
        record {
          learnt = n;
          at = at;
          links_is = second;
          gives = subst (λ (s : NodeId). Gives (clauses_before p k) s links n.clause) first (subst (λ (list : List Link). Gives (clauses_before p k) n.start list n.clause) second (legal.chains k n at));
        }

-- the edge is that of a clause from which the other links give whatever the chain gives
abbrev pub IsAlong : Parts → List Node → List Edge → NodeId → List Link → ℕ → Edge → Type 0
IsAlong p nodes edges start links i e = (clause : List Lit) → Gives (earlier p (length edges)) start links clause → (so_far : List Lit) × Derives (earlier p (length edges)) so_far (drop i links) clause × IsPartial p nodes so_far e

pub along_start : (p : Parts) (nodes : List Node) (edges : List Edge) (start : NodeId) (links : List Link) (d : Edge) → length (earlier p (length edges)) ≡ length edges → ArePartial p nodes (earlier p (length edges)) edges → IsAlong p nodes edges start links 0 (get_or edges start.0 d)
along_start p nodes edges start links d len are = λ clause gives.
    let within = slice_get_within (earlier p (length edges)) start.0 gives.begin gives.begin_at in
    (gives.begin, gives.derives, are start.0 gives.begin (get_or edges start.0 d) gives.begin_at (slice_get-get_or edges start.0 d (omega (arith, within, len))))

-- the next link of the chain
next_link : (p : Parts) (nodes : List Node) (edges : List Edge) (start : NodeId) (links : List Link) (i : ℕ) (d : Link) (e : Edge) (clause : List Lit) → i < length links → IsAlong p nodes edges start links i e → Gives (earlier p (length edges)) start links clause → (so_far next : List Lit) × IsPartial p nodes so_far e × IsLinked (earlier p (length edges)) so_far (get_or links i d) next × Derives (earlier p (length edges)) next (drop (suc i) links) clause
next_link p nodes edges start links i d e clause lt along gives =
    let here = along clause gives in
    let derives = subst (λ (list : List Link). Derives (earlier p (length edges)) here.0 list clause) (drop-cons links i d lt) here.1 in
    (here.0, derives.0, here.2, derives.1, derives.2)

-- the linked clause stands before, and so has an edge
linked_within : (p : Parts) (edges : List Edge) (so_far next : List Lit) (link : Link) → length (earlier p (length edges)) ≡ length edges → IsLinked (earlier p (length edges)) so_far link next → link.with.0 < length edges
linked_within p edges so_far next link len linked =
    let within = slice_get_within (earlier p (length edges)) link.with.0 linked.other linked.other_at in
    omega (arith, within, len)

linked_partial : (p : Parts) (nodes : List Node) (edges : List Edge) (so_far next : List Lit) (link : Link) (d : Edge) → length (earlier p (length edges)) ≡ length edges → ArePartial p nodes (earlier p (length edges)) edges → (linked : IsLinked (earlier p (length edges)) so_far link next) → IsPartial p nodes linked.other (get_or edges link.with.0 d)
linked_partial p nodes edges so_far next link d len are linked =
    are link.with.0 linked.other (get_or edges link.with.0 d) linked.other_at (slice_get-get_or edges link.with.0 d (linked_within p edges so_far next link len linked))

-- so the link, the edge so far and that of the linked clause are within their bounds
pub link_within : (p : Parts) (nodes : List Node) (edges : List Edge) (start : NodeId) (links : List Link) (i : ℕ) (d : Link) (e : Edge) → i < length links → length (earlier p (length edges)) ≡ length edges → IsLegalChain (earlier p (length edges)) start links → IsAlong p nodes edges start links i e → ((get_or links i d).with).0 < length edges
link_within p nodes edges start links i d e lt len legal along =
    let next = next_link p nodes edges start links i d e legal.0 lt along legal.1 in
    linked_within p edges next.0 next.1 (get_or links i d) len next.3

pub so_far_within : (p : Parts) (nodes : List Node) (edges : List Edge) (start : NodeId) (links : List Link) (i : ℕ) (e : Edge) → IsLegalChain (earlier p (length edges)) start links → IsAlong p nodes edges start links i e → IsEdge nodes e
so_far_within p nodes edges start links i e legal along = (along legal.0 legal.1).2.within

pub linked_edge_within : (p : Parts) (first nodes : List Node) (edges : List Edge) (start : NodeId) (links : List Link) (i : ℕ) (d : Link) (z e : Edge) (most : ℕ) → i < length links → length (earlier p (length edges)) ≡ length edges → Grows first nodes most → ArePartial p first (earlier p (length edges)) edges → IsLegalChain (earlier p (length edges)) start links → IsAlong p nodes edges start links i e → IsEdge nodes (get_or edges ((get_or links i d).with).0 z)
linked_edge_within p first nodes edges start links i d z e most lt len grows are legal along =
    let next = next_link p nodes edges start links i d e legal.0 lt along legal.1 in
    let link = get_or links i d in
    edge_stays first nodes most (get_or edges link.with.0 z) grows (linked_partial p first edges next.0 next.1 link z len are next.3).within

-- one more link
pub along_more : (p : Parts) (first old new : List Node) (edges : List Edge) (start : NodeId) (links : List Link) (i : ℕ) (d : Link) (z e g : Edge) (most : ℕ) → i < length links → length (earlier p (length edges)) ≡ length edges → Grows first old most → Grows old new 1 → ArePartial p first (earlier p (length edges)) edges → HasValue new g (λ w. cond (occurs p (get_or links i d).pivot) (value_of w e && value_of w (get_or edges ((get_or links i d).with).0 z)) (value_of w e || value_of w (get_or edges ((get_or links i d).with).0 z))) → IsAlong p old edges start links i e → IsAlong p new edges start links (i + 1) g
along_more p first old new edges start links i d z e g most lt len grows more are has along = λ clause gives.
    let link = get_or links i d in
    let next = next_link p old edges start links i d e clause lt along gives in
    let other = linked_partial p first edges next.0 next.1 link z len are next.3 in
    let there = partial_stays p old new 1 next.3.other (get_or edges link.with.0 z) more (partial_stays p first old most next.3.other (get_or edges link.with.0 z) grows other) in
    let here = partial_stays p old new 1 next.0 e more next.2 in
    let count : suc i ≡ i + 1 = omega arith in
    (next.1, subst (λ (n : ℕ). Derives (earlier p (length edges)) next.1 (drop n links) clause) count next.4, partial_resolvent p new next.0 next.3.other next.1 link.pivot e (get_or edges link.with.0 z) g next.3.resolvent here there has)

-- at the end the edge is that of what the chain gives
pub along_all : (p : Parts) (nodes : List Node) (edges : List Edge) (start : NodeId) (links : List Link) (i : ℕ) (e : Edge) → length links ≤ i → IsAlong p nodes edges start links i e → (clause : List Lit) → Gives (earlier p (length edges)) start links clause → IsPartial p nodes clause e
along_all p nodes edges start links i e le along clause gives =
    let here = along clause gives in
    let same : here.0 ≡ clause = subst (λ (list : List Link). Derives (earlier p (length edges)) here.0 list clause) (drop_all i links le) here.1 in
    subst (λ (c : List Lit). IsPartial p nodes c e) same here.2

-- one more edge
pub partial_push : (p : Parts) (old new : List Node) (most : ℕ) (clauses : List (List Lit)) (edges : List Edge) (e : Edge) → Grows old new most → ((clause : List Lit) → slice_get clauses (length edges) ≡ Some clause → IsPartial p new clause e) → ArePartial p old clauses edges → ArePartial p new clauses (edges ++ e ∷ [])
partial_push p old new most clauses edges e grows last are = λ k clause f at_clause at_edge.
    elim (push_cases edges e k f at_edge) [
      | inl older ↦ partial_stays p old new most clause f grows (are k clause f at_clause older)
      | inr here ↦ subst (IsPartial p new clause) (sym here.1) (last clause (ap (slice_get clauses) (sym here.0) ∙ at_clause))
    ]

-- the partial interpolant of the empty clause stands between the parts
between_by : (p : Parts) (nodes : List Node) (e : Edge) → IsPartial p nodes [] e → IsBetween (split_of p) p.shared.now nodes e
between_by p nodes e is = record {
  within = is.within;
  above = λ w v valuation follows model. elim (cases_Bool (value_of w e)) [
    | inl one ↦ one
    | inr zero' ↦ absurd (Any-nil _ (is.says w v false valuation follows model zero'))
  ];
  below = λ w v valuation follows model. elim (cases_Bool (value_of w e)) [
    | inl one ↦ absurd (Any-nil _ (is.says w v true valuation follows model one))
    | inr zero' ↦ zero'
  ];
  alone = is.alone;
}

-- the edges and the clauses of a proof are as many, and the last clause is empty: the last edge stands between the parts
pub between_last : (p : Parts) (nodes : List Node) (edges : List Edge) (e : Edge) → EndsEmpty p.trace.now → length edges ≡ length (clauses_of p.trace.now) → slice_get edges (length edges - 1) ≡ Some e → ArePartial p nodes (clauses_of p.trace.now) edges → IsBetween (split_of p) p.shared.now nodes e
between_last p nodes edges e ends len at are =
    between_by p nodes e (are (length edges - 1) [] e (ap (λ n. slice_get (clauses_of p.trace.now) (n - 1)) len ∙ ends) at)

-- the split that a call is given
split_is : (p : Parts) (t : Proof) (marks : List Bool) → p.trace.now ≡ t → p.side.now ≡ marks → ◌≡◌ {A = Split} (split_of p) (record { clauses = t.originals; marks = marks })
split_is p t marks e f =
    let make : Proof → List Bool → Split = λ t m. record { clauses = t.originals; marks = m } in
    ap (λ t. make t p.side.now) e ∙ ap (λ m. make t m) f

-- what is said of the parts is said of the split and of the edges that a call is given
pub said_of_given : (P : Split → List (Var × Edge) → Type 0) (p : Parts) (t : Proof) (marks : List Bool) (shared : List (Var × Edge)) → p.trace.now ≡ t → p.side.now ≡ marks → p.shared.now ≡ shared → P (split_of p) p.shared.now → P (record { clauses = t.originals; marks = marks }) shared
said_of_given P p t marks shared e f g h =
    subst (λ (s : Split). P s shared) (split_is p t marks e f) (subst (λ (list : List (Var × Edge)). P (split_of p) list) g h)

-- and the other way
pub said_of_parts : (P : Split → List (Var × Edge) → Type 0) (p : Parts) (t : Proof) (marks : List Bool) (shared : List (Var × Edge)) → p.trace.now ≡ t → p.side.now ≡ marks → p.shared.now ≡ shared → P (record { clauses = t.originals; marks = marks }) shared → P (split_of p) p.shared.now
said_of_parts P p t marks shared e f g h =
    subst (λ (list : List (Var × Edge)). P (split_of p) list) (sym g) (subst (λ (s : Split). P s shared) (sym (split_is p t marks e f)) h)
