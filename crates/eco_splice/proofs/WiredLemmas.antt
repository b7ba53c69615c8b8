-- The edges that have wires: one more node, and which edges they are.
use Rattle.std.proofs.Common.{◌≡◌, ℕ, zero, suc, ◌+◌, ◌<◌, ◌⊎◌, inl, inr, Bool, true, false, not, ◌&&◌, ◌||◌, eqb, cond, List, [], ◌∷◌, ◌++◌, Option, None, Some, refl, sym, ◌∙◌, ap, subst, arith}
use Rattle.std.specs.List.{Contains, filter, flat_map, list_any, range_with_len}
use Rattle.std.specs.Option.{is_some}
use Rattle.std.proofs.lemmas.Bool.{cases_eq, eqb-true, eq-eqb, and_from, not_from_false}
use Rattle.std.proofs.lemmas.Grind.{flat_map-append}
use Rattle.std.proofs.lemmas.List.{append-nil}
use Rattle.std.proofs.lemmas.List.Folds.{list_any-append}
use Rattle.std.proofs.lemmas.List.Elements.{filter-append, Contains-append_left, Contains-append_right, Contains-append_cases}
use Rattle.std.proofs.Math.Bool.{or-false}
use Rattle.eco_lists.proofs.Tests.{both}
use Rattle.eco_lists.proofs.Members.{Contains_cases, Contains_first, Contains_none, only_one, passes_any, some_passes, Contains-filter, filter-Contains}
use Rattle.eco_lists.proofs.Ranges.{range_more, range_member, member_of_range}
use Rattle.eco_aig.specs.declared.edge.Edge.{Edge}
use Rattle.eco_aig.specs.declared.node.Node.{Node}
use Rattle.eco_aig.specs.Edges.{plain}
use Rattle.eco_netlist.proofs.Plainly.{Contains-flat_map}
use Rattle.eco_aig.specs.Reached.{both_of, operands_at}
use Rattle.eco_splice.specs.Wired.{is_gate, gates_below, is_complement_of, is_inverted, new_complements, wired_below}

-- edges to one node with one sign are one
pub edge_is : (a b : Edge) → a.node ≡ b.node → a.complemented ≡ b.complemented → a ≡ b
edge_is a b node sign =
    ap (λ (n : ℕ). let e : Edge = record { node = n; complemented = a.complemented } in e) node
    ∙ ap (λ (s : Bool). let e : Edge = record { node = b.node; complemented = s } in e) sign

-- a member of a member's list
pub flat_member : {X Y : Type 0} (f : X → List Y) (xs : List X) (x : X) (y : Y) → Contains xs x → Contains (f x) y → Contains (flat_map f xs) y
flat_member f [] x y c d = absurd (Contains_none x c)
flat_member {X} {Y} f (z ∷ xs) x y c d =
    elim (Contains_cases z x xs c) [
      | inl same ↦ Contains-append_left (f z) (flat_map f xs) y (subst (λ (w : X). Contains (f w) y) (sym same) d)
      | inr later ↦ Contains-append_right (f z) (flat_map f xs) y (flat_member f xs x y later d)
    ]

-- tests that agree keep the same
pub filter_agree : {X : Type 0} (p q : X → Bool) (xs : List X) → ((x : X) → p x ≡ q x) → filter p xs ≡ filter q xs
filter_agree p q [] h = refl
filter_agree p q (x ∷ xs) h = rw (h x, filter_agree p q xs h) refl

-- the test for the complement of a node
pub complement_is : (node : ℕ) (e : Edge) → is_complement_of node e ≡ true → (e.complemented ≡ true) × (e.node ≡ node)
complement_is node e is = let parts = both e.complemented (eqb e.node node) is in (parts.0, eqb-true e.node node parts.1)

pub complement_from : (node : ℕ) (e : Edge) → e.complemented ≡ true → e.node ≡ node → is_complement_of node e ≡ true
complement_from node e sign same = and_from e.complemented (eqb e.node node) sign (eq-eqb e.node node same)

-- one more node
gates_more : (nodes : List Node) (marks : List Bool) (k : ℕ) → gates_below nodes marks (k + 1) ≡ gates_below nodes marks k ++ cond (is_gate nodes marks k) (k ∷ []) []
gates_more nodes marks k =
    ap (filter (is_gate nodes marks)) (range_more 0 k k (omega arith)) ∙ filter-append (is_gate nodes marks) (range_with_len 0 k) (k ∷ [])

-- what comes with an and-node
abbrev pub block : List Node → List Bool → ℕ → List Edge
block nodes marks k = new_complements nodes marks k ++ plain k ∷ []

pub wired_more : (nodes : List Node) (marks : List Bool) (k : ℕ) → wired_below nodes marks (k + 1) ≡ wired_below nodes marks k ++ cond (is_gate nodes marks k) (block nodes marks k) []
wired_more nodes marks k =
    ap (flat_map (block nodes marks)) (gates_more nodes marks k)
    ∙ flat_map-append (block nodes marks) (gates_below nodes marks k) (cond (is_gate nodes marks k) (k ∷ []) [])
    ∙ ap (λ l. wired_below nodes marks k ++ l) (elim (is_gate nodes marks k) as (λ b. flat_map (block nodes marks) (cond b (k ∷ []) []) ≡ cond b (block nodes marks k) []) [ true ↦ append-nil (block nodes marks k) | false ↦ refl ])

pub inverted_more : (nodes : List Node) (marks : List Bool) (k node : ℕ) → is_inverted nodes (gates_below nodes marks (k + 1)) node ≡ (is_inverted nodes (gates_below nodes marks k) node || cond (is_gate nodes marks k) (list_any (is_complement_of node) (operands_at nodes k)) false)
inverted_more nodes marks k node =
    let reads : ℕ → Bool = λ j. list_any (is_complement_of node) (operands_at nodes j) in
    ap (list_any reads) (gates_more nodes marks k)
    ∙ list_any-append reads (gates_below nodes marks k) (cond (is_gate nodes marks k) (k ∷ []) [])
    ∙ ap (λ b. is_inverted nodes (gates_below nodes marks k) node || b) (elim (is_gate nodes marks k) as (λ b. list_any reads (cond b (k ∷ []) []) ≡ cond b (reads k) false) [ true ↦ or-false (reads k) | false ↦ refl ])

-- the marked and-nodes among the first
pub gate_member : (nodes : List Node) (marks : List Bool) (below k : ℕ) → k < below → is_gate nodes marks k ≡ true → Contains (gates_below nodes marks below) k
gate_member nodes marks below k lt is =
    Contains-filter (is_gate nodes marks) (range_with_len 0 below) k (member_of_range 0 below k (omega arith) (omega arith)) is

pub member_gate : (nodes : List Node) (marks : List Bool) (below k : ℕ) → Contains (gates_below nodes marks below) k → (k < below) × (is_gate nodes marks k ≡ true)
member_gate nodes marks below k c =
    let found = filter-Contains (is_gate nodes marks) (range_with_len 0 below) k c in
    let range = range_member 0 below k found.0 in
    (omega (arith, range.1), found.1)

-- the test that new complements pass
abbrev pub is_new : List Node → List Bool → ℕ → Edge → Bool
is_new nodes marks k e = e.complemented && not (is_inverted nodes (gates_below nodes marks k) e.node)

-- an edge with a wire goes to a marked and-node, or is a complement that is an operand of one
pub wired_cases : (nodes : List Node) (marks : List Bool) (below : ℕ) (e : Edge) → Contains (wired_below nodes marks below) e → (k : ℕ) × (k < below) × (is_gate nodes marks k ≡ true) × ((plain k ≡ e) ⊎ ((e.complemented ≡ true) × Contains (operands_at nodes k) e))
wired_cases nodes marks below e c =
    let found = Contains-flat_map (block nodes marks) (gates_below nodes marks below) e c in
    let k = found.0 in
    let gate = member_gate nodes marks below k found.1 in (
      k,
      gate.0,
      gate.1,
      elim (Contains-append_cases (new_complements nodes marks k) (plain k ∷ []) e found.2) [
        | inl complement ↦
            let kept = filter-Contains (is_new nodes marks k) (operands_at nodes k) e complement in
            inr ((both e.complemented (not (is_inverted nodes (gates_below nodes marks k) e.node)) kept.1).0, kept.0)
        | inr last ↦ inl (only_one (plain k) e last)
      ],
    )

-- each marked and-node has a wire
pub node_wired : (nodes : List Node) (marks : List Bool) (below k : ℕ) → k < below → is_gate nodes marks k ≡ true → Contains (wired_below nodes marks below) (plain k)
node_wired nodes marks below k lt is =
    flat_member (block nodes marks) (gates_below nodes marks below) k (plain k) (gate_member nodes marks below k lt is)
    (Contains-append_right (new_complements nodes marks k) (plain k ∷ []) (plain k) (Contains_first (plain k) []))

-- the complement of a node is an operand of one of the first and-nodes
inverted_by : (nodes : List Node) (marks : List Bool) (below node : ℕ) → is_inverted nodes (gates_below nodes marks below) node ≡ true → (k : ℕ) × (e : Edge) × (k < below) × (is_gate nodes marks k ≡ true) × Contains (operands_at nodes k) e × (e.complemented ≡ true) × (e.node ≡ node)
inverted_by nodes marks below node is =
    let gate = some_passes (λ k. list_any (is_complement_of node) (operands_at nodes k)) (gates_below nodes marks below) is in
    let operand = some_passes (is_complement_of node) (operands_at nodes gate.0) gate.2 in
    let at = member_gate nodes marks below gate.0 gate.1 in
    let sign = complement_is node operand.0 operand.2 in
    (gate.0, operand.0, at.0, at.1, operand.1, sign.0, sign.1)

pub inverted_from : (nodes : List Node) (marks : List Bool) (below k : ℕ) (e : Edge) → k < below → is_gate nodes marks k ≡ true → Contains (operands_at nodes k) e → e.complemented ≡ true → is_inverted nodes (gates_below nodes marks below) e.node ≡ true
inverted_from nodes marks below k e lt is c sign =
    passes_any (λ j. list_any (is_complement_of e.node) (operands_at nodes j)) (gates_below nodes marks below) k (gate_member nodes marks below k lt is)
    (passes_any (is_complement_of e.node) (operands_at nodes k) e c (complement_from e.node e sign refl))

-- each complement that is an operand of one of the first and-nodes has a wire
pub complement_wired : (nodes : List Node) (marks : List Bool) (below k : ℕ) (e : Edge) → k < below → is_gate nodes marks k ≡ true → Contains (operands_at nodes k) e → e.complemented ≡ true → Contains (wired_below nodes marks below) e
complement_wired nodes marks zero k e lt is c sign = absurd (omega arith)
complement_wired nodes marks (suc n) k e lt is c sign =
    let next : n + 1 ≡ suc n = omega arith in
    let more = subst (λ (m : ℕ). wired_below nodes marks m ≡ wired_below nodes marks n ++ cond (is_gate nodes marks n) (block nodes marks n) []) next (wired_more nodes marks n) in
    elim (cases_eq k n) [
      | inr other ↦
          rw more (Contains-append_left (wired_below nodes marks n) (cond (is_gate nodes marks n) (block nodes marks n) []) e
          (complement_wired nodes marks n k e (let apart = other in omega arith) is c sign))
      | inl same ↦
          elim (is_inverted nodes (gates_below nodes marks k) e.node) as (λ b. is_inverted nodes (gates_below nodes marks k) e.node ≡ b → Contains (wired_below nodes marks (suc n)) e) [
            | true ↦ λ has.
                let by = inverted_by nodes marks k e.node has in
                let earlier = complement_wired nodes marks n by.0 by.1 (let low = by.2 in omega arith) by.3 by.4 by.5 in
                rw more (Contains-append_left (wired_below nodes marks n) (cond (is_gate nodes marks n) (block nodes marks n) []) e
                (subst (λ (x : Edge). Contains (wired_below nodes marks n) x) (edge_is by.1 e by.6 (by.5 ∙ sym sign)) earlier))
            | false ↦ λ none.
                let fresh = Contains-filter (is_new nodes marks k) (operands_at nodes k) e c (and_from _ _ sign (not_from_false _ none)) in
                flat_member (block nodes marks) (gates_below nodes marks (suc n)) k e (gate_member nodes marks (suc n) k lt is)
                (Contains-append_left (new_complements nodes marks k) (plain k ∷ []) e fresh)
          ] refl
    ]

-- what the marks say of a node is what `is_gate` says, where none but and-nodes have operands
pub gate_reads : (marked : Bool) (pair : Option (Edge × Edge)) (p : Edge → Bool) → cond marked (list_any p (both_of pair)) false ≡ cond (marked && is_some pair) (list_any p (both_of pair)) false
gate_reads false pair p = refl
gate_reads true None p = refl
gate_reads true (Some both) p = refl

pub gate_edges : (marked : Bool) (pair : Option (Edge × Edge)) (p q : Edge → Bool) (e : Edge) → ((x : Edge) → p x ≡ q x) → cond marked (cond (is_some pair) (filter p (both_of pair) ++ e ∷ []) []) [] ≡ cond (marked && is_some pair) (filter q (both_of pair) ++ e ∷ []) []
gate_edges false pair p q e h = refl
gate_edges true None p q e h = refl
gate_edges true (Some both) p q e h = ap (λ l. l ++ e ∷ []) (filter_agree p q (both_of (Some both)) h)
