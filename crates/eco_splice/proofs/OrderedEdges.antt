-- The edges that have nets stand in order: each once, and behind those that its gate reads.
use Rattle.std.proofs.Common.{◌≡◌, ◌≢◌, ℕ, zero, suc, ◌+◌, ◌<◌, ◌⊎◌, inl, inr, Bool, true, false, not, cond, List, [], ◌∷◌, ◌++◌, Option, None, Some, length, get_or, take, map, refl, sym, ◌∙◌, ap, subst, arith, append_assoc}
use Rattle.std.specs.List.{All, Contains, slice_get, filter}
use Rattle.std.specs.Option.{is_some, option_and_then}
use Rattle.std.proofs.lemmas.Bool.{cases_order, false≢true, and_from}
use Rattle.std.proofs.lemmas.Option.{none-some, same_Some, slice_get_within}
use Rattle.std.proofs.lemmas.List.{append-nil}
use Rattle.std.proofs.lemmas.List.Elements.{Contains-append_left, Contains-append_right, Contains-append_cases}
use Rattle.eco_lists.proofs.Tests.{both}
use Rattle.eco_lists.proofs.Places.{place_of, item_at, Contains_at, place_in_front, slice_get-take, All_from_places}
use Rattle.eco_lists.proofs.Members.{Contains-map, Contains_first, Contains_later, Contains_none, only_one, map-Contains, filter-Contains}
use Rattle.eco_aig.specs.declared.edge.Edge.{Edge}
use Rattle.eco_aig.specs.declared.node.Node.{Node}
use Rattle.eco_aig.specs.declared.node.Node.TheVariants.{Zero, Input, And}
use Rattle.eco_aig.specs.Edges.{plain}
use Rattle.eco_aig.specs.Graph.{IsGraph, pair_of, pair_at, inputs_of}
use Rattle.eco_aig.proofs.Conjunctions.{pair_at_node}
use Rattle.eco_aig.proofs.Inputs.{input_listed, listed_input}
use Rattle.eco_aig.specs.Reached.{both_of, operands_at, next, IsReached, AreReached}
use Rattle.eco_splice.specs.Wired.{is_gate, gates_below, is_inverted, new_complements, wired_below, wired}
use Rattle.eco_splice.specs.GraphPatch.{sources, netted}
use Rattle.eco_aig.proofs.MarkLemmas.{mark_within}
use Rattle.eco_aig.proofs.Reaching.{operand_below}
use Rattle.eco_splice.proofs.WiredLemmas.{edge_is, block, is_new, wired_more, wired_cases, node_wired, complement_wired, inverted_from}

-- each of the edges is behind what its gate reads, and none stands before it again; the known ones come first
abbrev pub AreOrdered : List Node → List Edge → List Edge → Type 0
AreOrdered nodes known [] = Unit {0}
AreOrdered nodes known (e ∷ edges) =
    ((x : Edge) → Contains (sources nodes e) x → Contains known x) × (Contains known e → ⊥) × AreOrdered nodes (known ++ e ∷ []) edges

pub ordered_append : (nodes : List Node) (known xs ys : List Edge) → AreOrdered nodes known xs → AreOrdered nodes (known ++ xs) ys → AreOrdered nodes known (xs ++ ys)
ordered_append nodes known [] ys before behind = subst (λ l. AreOrdered nodes l ys) (append-nil known) behind
ordered_append nodes known (e ∷ xs) ys before behind = (
  before.0,
  before.1,
  ordered_append nodes (known ++ e ∷ []) xs ys before.2
      (subst (λ l. AreOrdered nodes l ys) (sym (append_assoc known (e ∷ []) xs)) behind),
)

-- what is said of the edge at a place
pub ordered_at : (nodes : List Node) (known edges : List Edge) (k : ℕ) (e : Edge) → AreOrdered nodes known edges → slice_get edges k ≡ Some e → ((x : Edge) → Contains (sources nodes e) x → Contains (known ++ take k edges) x) × (Contains (known ++ take k edges) e → ⊥)
ordered_at nodes known [] k e are at = absurd (none-some e at)
ordered_at nodes known (y ∷ edges) zero e are at =
    let same : y ≡ e = same_Some y e at in (
      λ x c. rw append-nil (are.0 x (subst (λ (z : Edge). Contains (sources nodes z) x) (sym same) c)),
      λ c. are.1 (subst (λ (z : Edge). Contains known z) (sym same) (subst (λ l. Contains l e) (append-nil known) c)),
    )
ordered_at nodes known (y ∷ edges) (suc k) e are at =
    let rest = ordered_at nodes (known ++ y ∷ []) edges k e are.2 at in
    let same = append_assoc known (y ∷ []) (take k edges) in (
      λ x c. subst (λ l. Contains l x) same (rest.0 x c),
      λ c. rest.1 (subst (λ l. Contains l e) (sym same) c),
    )

-- edges by their places: each has one, and what its gate reads has an earlier one
pub record AreLaidOut (nodes : List Node) (edges : List Edge) : Type 0 where
  pub once : (i j : ℕ) (e : Edge) → slice_get edges i ≡ Some e → slice_get edges j ≡ Some e → i ≡ j
  pub before : (k : ℕ) (e x : Edge) → slice_get edges k ≡ Some e → Contains (sources nodes e) x → (i : ℕ) × (i < k) × (slice_get edges i ≡ Some x)

not_again : (nodes : List Node) (edges : List Edge) (i j : ℕ) (e : Edge) → AreOrdered nodes [] edges → i < j → slice_get edges i ≡ Some e → slice_get edges j ≡ Some e → ⊥
not_again nodes edges i j e are lt at_i at_j =
    (ordered_at nodes [] edges j e are at_j).1 (Contains_at (take j edges) i e (slice_get-take j edges i e lt at_i))

pub laid_out : (nodes : List Node) (edges : List Edge) → AreOrdered nodes [] edges → AreLaidOut nodes edges
laid_out nodes edges are = record {
  once = λ i j e at_i at_j. elim (cases_order i j) [
    | inl same ↦ same
    | inr apart ↦ elim apart [
      | inl low ↦ absurd (not_again nodes edges i j e are low at_i at_j)
      | inr high ↦ absurd (not_again nodes edges j i e are high at_j at_i)
    ]
  ];
  before = λ k e x at c.
      let found = place_of (take k edges) x ((ordered_at nodes [] edges k e are at).0 x c) in
      let front = place_in_front k edges found.0 x found.1 in
      (found.0, front.0, front.1);
}

-- the edges to the inputs are in order
inputs_ordered : (graph nodes : List Node) (off : ℕ) (known : List Edge) → ((k n : ℕ) → slice_get nodes k ≡ Some (Input n) → (n ≡ off + k) × (operands_at graph n ≡ [])) → ((n : ℕ) → Contains known (plain n) → n < off) → AreOrdered graph known (map plain (inputs_of nodes))
inputs_ordered graph [] off known own low = tt
inputs_ordered graph (Zero ∷ nodes) off known own low =
    inputs_ordered graph nodes (off + 1) known (λ k n at. let is = own (suc k) n at in (omega (arith, is.0), is.1)) (λ n c. let lt = low n c in omega arith)
inputs_ordered graph (And a b ∷ nodes) off known own low =
    inputs_ordered graph nodes (off + 1) known (λ k n at. let is = own (suc k) n at in (omega (arith, is.0), is.1)) (λ n c. let lt = low n c in omega arith)
inputs_ordered graph (Input number ∷ nodes) off known own low =
    let here = own 0 number refl in (
      λ x c. absurd (Contains_none x (subst (λ l. Contains l x) here.1 c)),
      λ c. let lt = low number c in omega (arith, lt, here.0),
      inputs_ordered graph nodes (off + 1) (known ++ plain number ∷ [])
          (λ k n at. let is = own (suc k) n at in (omega (arith, is.0), is.1))
          (λ n c. elim (Contains-append_cases known (plain number ∷ []) (plain n) c) [
            | inl old ↦ let lt = low n old in omega arith
            | inr new ↦
                let same : number ≡ n = ap (λ (e : Edge). e.node) (only_one (plain number) (plain n) new) in
                omega (arith, here.0, same)
          ]),
    )

no_operands : (nodes : List Node) (k n : ℕ) → slice_get nodes k ≡ Some (Input n) → operands_at nodes k ≡ []
no_operands nodes k n at = ap (λ node. both_of (option_and_then pair_of node)) at

pub netted_inputs : (nodes : List Node) → IsGraph nodes → AreOrdered nodes [] (map plain (inputs_of nodes))
netted_inputs nodes graph =
    inputs_ordered nodes nodes 0 []
    (λ k n at. let same = graph.inputs k n at in (omega (arith, same), ap (operands_at nodes) same ∙ no_operands nodes k n at))
    (λ n c. absurd (Contains_none (plain n) c))

-- a node that is not constant is an input or an and-node
node_is : (nodes : List Node) (k : ℕ) (node : Node) → IsGraph nodes → 0 < k → slice_get nodes k ≡ Some node → Contains (inputs_of nodes) k ⊎ (is_some (pair_at nodes k) ≡ true)
node_is nodes k Zero graph some at = absurd (let same = graph.distinct 0 k Zero graph.constant at in omega arith)
node_is nodes k (Input n) graph some at = inl (subst (λ (m : ℕ). Contains (inputs_of nodes) m) (graph.inputs k n at) (input_listed nodes k n at))
node_is nodes k (And a b) graph some at = inr (ap (λ node. is_some (option_and_then pair_of node)) at)

pub node_cases : (nodes : List Node) (k : ℕ) → IsGraph nodes → 0 < k → k < length nodes → Contains (inputs_of nodes) k ⊎ (is_some (pair_at nodes k) ≡ true)
node_cases nodes k graph some within = let node = item_at nodes k within in node_is nodes k node.0 graph some node.1

-- the marks go on to operands
abbrev pub IsClosed : List Node → List Bool → Type 0
IsClosed nodes marks =
    (j : ℕ) (e : Edge) → get_or marks j false ≡ true → Contains (operands_at nodes j) e → get_or marks e.node false ≡ true

pub reached_closed : (nodes : List Node) (roots : List Edge) (marks : List Bool) → AreReached nodes roots marks → IsClosed nodes marks
reached_closed nodes roots marks are j e is c =
    let reached = are.sound j is in
    are.complete e.node (reached.0, reached.1, next j e reached.2 c)

-- the parts of the tests
gate_parts : (nodes : List Node) (marks : List Bool) (k : ℕ) → is_gate nodes marks k ≡ true → (get_or marks k false ≡ true) × (is_some (pair_at nodes k) ≡ true)
gate_parts nodes marks k is = both (get_or marks k false) (is_some (pair_at nodes k)) is

new_parts : (nodes : List Node) (marks : List Bool) (k : ℕ) (e : Edge) → is_new nodes marks k e ≡ true → (e.complemented ≡ true) × (not (is_inverted nodes (gates_below nodes marks k) e.node) ≡ true)
new_parts nodes marks k e is = both e.complemented (not (is_inverted nodes (gates_below nodes marks k) e.node)) is

-- the node of an operand of a marked and-node has a net before the node
operand_known : (nodes : List Node) (marks : List Bool) (n : ℕ) (e : Edge) → IsGraph nodes → IsClosed nodes marks → is_gate nodes marks n ≡ true → Contains (operands_at nodes n) e → Contains (map plain (inputs_of nodes) ++ wired_below nodes marks n) (plain e.node)
operand_known nodes marks n e graph closed is c =
    let below = operand_below nodes n e graph c in
    elim (node_cases nodes e.node graph below.0 (let lt = below.1 in let within = below.2 in omega arith)) [
      | inl input ↦ Contains-append_left (map plain (inputs_of nodes)) (wired_below nodes marks n) (plain e.node) (Contains-map plain (inputs_of nodes) e.node input)
      | inr some ↦
          let marked = closed n e (gate_parts nodes marks n is).0 c in
          Contains-append_right (map plain (inputs_of nodes)) (wired_below nodes marks n) (plain e.node)
          (node_wired nodes marks n e.node below.1 (and_from (get_or marks e.node false) (is_some (pair_at nodes e.node)) marked some))
    ]

-- a complement has no net before it comes with its first and-node
complement_new : (nodes : List Node) (marks : List Bool) (n : ℕ) (e : Edge) → is_new nodes marks n e ≡ true → Contains (map plain (inputs_of nodes) ++ wired_below nodes marks n) e → ⊥
complement_new nodes marks n e is c =
    let parts = new_parts nodes marks n e is in
    elim (Contains-append_cases (map plain (inputs_of nodes)) (wired_below nodes marks n) e c) [
      | inl input ↦
          let found = map-Contains plain (inputs_of nodes) e input in
          false≢true (ap (λ (x : Edge). x.complemented) found.2 ∙ parts.0)
      | inr earlier ↦
          let found = wired_cases nodes marks n e earlier in
          elim found.3 [
            | inl node ↦ false≢true (ap (λ (x : Edge). x.complemented) node ∙ parts.0)
            | inr operand ↦ false≢true (sym (ap not (inverted_from nodes marks n found.0 e found.1 found.2 operand.1 operand.0)) ∙ parts.1)
          ]
    ]

-- new complements are in order
complement_source : (nodes : List Node) (known : List Edge) (e : Edge) → e.complemented ≡ true → Contains known (plain e.node) → (x : Edge) → Contains (sources nodes e) x → Contains known x
complement_source nodes known e sign has x c =
    let one : sources nodes e ≡ plain e.node ∷ [] = ap (λ b. cond b (plain e.node ∷ []) (operands_at nodes e.node)) sign in
    subst (λ (y : Edge). Contains known y) (only_one (plain e.node) x (subst (λ l. Contains l x) one c)) has

abbrev IsReady : List Edge → Edge → Type 0
IsReady known e = (e.complemented ≡ true) × Contains known (plain e.node) × (Contains known e → ⊥)

one_ordered : (nodes : List Node) (known : List Edge) (p : Edge → Bool) (b : Edge) → (p b ≡ true → IsReady known b) → AreOrdered nodes known (filter p (b ∷ []))
one_ordered nodes known p b ready =
    elim (p b) as (λ q. p b ≡ q → AreOrdered nodes known (cond q (b ∷ []) [])) [
      | true ↦ λ is. let r = ready is in (complement_source nodes known b r.0 r.1, r.2, tt)
      | false ↦ λ is. tt
    ] refl

two_ordered : (nodes : List Node) (known : List Edge) (p : Edge → Bool) (a b : Edge) → a ≢ b → (p a ≡ true → IsReady known a) → (p b ≡ true → IsReady known b) → AreOrdered nodes known (filter p (a ∷ b ∷ []))
two_ordered nodes known p a b apart ready_a ready_b =
    elim (p a) as (λ q. p a ≡ q → AreOrdered nodes known (cond q (a ∷ filter p (b ∷ [])) (filter p (b ∷ [])))) [
      | true ↦ λ is.
          let r = ready_a is in (
            complement_source nodes known a r.0 r.1,
            r.2,
            one_ordered nodes (known ++ a ∷ []) p b
                (λ is_b.
                let s = ready_b is_b in (
                  s.0,
                  Contains-append_left known (a ∷ []) (plain b.node) s.1,
                  λ c. elim (Contains-append_cases known (a ∷ []) b c) [ inl old ↦ s.2 old | inr new ↦ apart (only_one a b new) ],
                )),
          )
      | false ↦ λ is. one_ordered nodes known p b ready_b
    ] refl

-- what comes with an and-node is in order
pub pair_found : (pair : Option (Edge × Edge)) → is_some pair ≡ true → (a : Edge) × (b : Edge) × (pair ≡ Some (a, b))
pair_found None is = absurd (false≢true is)
pair_found (Some (a, b)) is = (a, b, refl)

new_ordered : (nodes : List Node) (marks : List Bool) (n : ℕ) → IsGraph nodes → IsClosed nodes marks → is_gate nodes marks n ≡ true → AreOrdered nodes (map plain (inputs_of nodes) ++ wired_below nodes marks n) (new_complements nodes marks n)
new_ordered nodes marks n graph closed is =
    let known = map plain (inputs_of nodes) ++ wired_below nodes marks n in
    let pair = pair_found (pair_at nodes n) (gate_parts nodes marks n is).1 in
    let a = pair.0 in
    let b = pair.1 in
    let operands : operands_at nodes n ≡ a ∷ b ∷ [] = ap both_of pair.2 in
    let ready : (e : Edge) → Contains (a ∷ b ∷ []) e → is_new nodes marks n e ≡ true → IsReady known e = λ e c new. (
      (new_parts nodes marks n e new).0,
      operand_known nodes marks n e graph closed is (subst (λ l. Contains l e) (sym operands) c),
      complement_new nodes marks n e new,
    ) in
    let apart : a ≢ b = λ same.
    let at = pair_at_node nodes n a b pair.2 in
    let are = graph.operands n a b at in
    let nodes_same = ap (λ (e : Edge). e.node) same in
    omega (arith, are.second, nodes_same) in
    subst (λ l. AreOrdered nodes known (filter (is_new nodes marks n) l)) (sym operands)
    (two_ordered nodes known (is_new nodes marks n) a b apart (ready a (Contains_first a (b ∷ []))) (ready b (Contains_later a b (b ∷ []) (Contains_first b []))))

-- an and-node stands behind its operands
node_sources : (nodes : List Node) (marks : List Bool) (n : ℕ) → IsGraph nodes → IsClosed nodes marks → is_gate nodes marks n ≡ true → (x : Edge) → Contains (operands_at nodes n) x → Contains ((map plain (inputs_of nodes) ++ wired_below nodes marks n) ++ new_complements nodes marks n) x
node_sources nodes marks n graph closed is x c =
    let known = map plain (inputs_of nodes) ++ wired_below nodes marks n in
    let new = new_complements nodes marks n in
    let below = operand_below nodes n x graph c in
    elim x.complemented as (λ b. x.complemented ≡ b → Contains (known ++ new) x) [
      | true ↦ λ sign.
          let has = complement_wired nodes marks (n + 1) n x (omega arith) is c sign in
          let more : wired_below nodes marks (n + 1) ≡ wired_below nodes marks n ++ block nodes marks n =
          wired_more nodes marks n ∙ ap (λ b. wired_below nodes marks n ++ cond b (block nodes marks n) []) is in
          elim (Contains-append_cases (wired_below nodes marks n) (block nodes marks n) x (subst (λ l. Contains l x) more has)) [
            | inl old ↦ Contains-append_left known new x (Contains-append_right (map plain (inputs_of nodes)) (wired_below nodes marks n) x old)
            | inr own ↦ elim (Contains-append_cases new (plain n ∷ []) x own) [
              | inl complement ↦ Contains-append_right known new x complement
              | inr last ↦ absurd (let same = ap (λ (e : Edge). e.node) (only_one (plain n) x last) in let lt = below.1 in omega arith)
            ]
          ]
      | false ↦ λ sign.
          Contains-append_left known new x
          (subst (λ (e : Edge). Contains known e) (edge_is (plain x.node) x refl (sym sign)) (operand_known nodes marks n x graph closed is c))
    ] refl

node_new : (nodes : List Node) (marks : List Bool) (n : ℕ) → IsGraph nodes → is_gate nodes marks n ≡ true → Contains ((map plain (inputs_of nodes) ++ wired_below nodes marks n) ++ new_complements nodes marks n) (plain n) → ⊥
node_new nodes marks n graph is c =
    elim (Contains-append_cases (map plain (inputs_of nodes) ++ wired_below nodes marks n) (new_complements nodes marks n) (plain n) c) [
      | inl known ↦ elim (Contains-append_cases (map plain (inputs_of nodes)) (wired_below nodes marks n) (plain n) known) [
        | inl input ↦
            let found = map-Contains plain (inputs_of nodes) (plain n) input in
            let same : found.0 ≡ n = ap (λ (e : Edge). e.node) found.2 in
            let at = listed_input nodes n graph (subst (λ (m : ℕ). Contains (inputs_of nodes) m) same found.1) in
            false≢true (sym (ap (λ node. is_some (option_and_then pair_of node)) at) ∙ (gate_parts nodes marks n is).1)
        | inr earlier ↦
            let found = wired_cases nodes marks n (plain n) earlier in
            elim found.3 [
              | inl node ↦ let same = ap (λ (e : Edge). e.node) node in let lt = found.1 in omega arith
              | inr operand ↦ false≢true operand.0
            ]
      ]
      | inr complement ↦
          let kept = filter-Contains (is_new nodes marks n) (operands_at nodes n) (plain n) complement in
          false≢true kept.1
    ]

block_ordered : (nodes : List Node) (marks : List Bool) (n : ℕ) → IsGraph nodes → IsClosed nodes marks → is_gate nodes marks n ≡ true → AreOrdered nodes (map plain (inputs_of nodes) ++ wired_below nodes marks n) (block nodes marks n)
block_ordered nodes marks n graph closed is =
    ordered_append nodes (map plain (inputs_of nodes) ++ wired_below nodes marks n) (new_complements nodes marks n) (plain n ∷ [])
    (new_ordered nodes marks n graph closed is)
    (node_sources nodes marks n graph closed is, node_new nodes marks n graph is, tt)

wired_ordered : (nodes : List Node) (marks : List Bool) (k : ℕ) → IsGraph nodes → IsClosed nodes marks → AreOrdered nodes (map plain (inputs_of nodes)) (wired_below nodes marks k)
wired_ordered nodes marks zero graph closed = tt
wired_ordered nodes marks (suc n) graph closed =
    let inputs = map plain (inputs_of nodes) in
    let next : n + 1 ≡ suc n = omega arith in
    let more = subst (λ (m : ℕ). wired_below nodes marks m ≡ wired_below nodes marks n ++ cond (is_gate nodes marks n) (block nodes marks n) []) next (wired_more nodes marks n) in
    let last : AreOrdered nodes (inputs ++ wired_below nodes marks n) (cond (is_gate nodes marks n) (block nodes marks n) []) =
    elim (is_gate nodes marks n) as (λ b. is_gate nodes marks n ≡ b → AreOrdered nodes (inputs ++ wired_below nodes marks n) (cond b (block nodes marks n) [])) [
      | true ↦ λ is. block_ordered nodes marks n graph closed is
      | false ↦ λ is. tt
    ] refl in
    subst (λ l. AreOrdered nodes inputs l) (sym more)
    (ordered_append nodes inputs (wired_below nodes marks n) (cond (is_gate nodes marks n) (block nodes marks n) []) (wired_ordered nodes marks n graph closed) last)

pub netted_laid_out : (nodes : List Node) (roots : List Edge) (marks : List Bool) → IsGraph nodes → AreReached nodes roots marks → AreLaidOut nodes (netted nodes (wired nodes marks))
netted_laid_out nodes roots marks graph are =
    laid_out nodes (netted nodes (wired nodes marks))
    (ordered_append nodes [] (map plain (inputs_of nodes)) (wired nodes marks) (netted_inputs nodes graph) (wired_ordered nodes marks (length nodes) graph (reached_closed nodes roots marks are)))

-- they are edges of the graph
netted_within : (nodes : List Node) (marks : List Bool) → IsGraph nodes → (e : Edge) → Contains (netted nodes (wired nodes marks)) e → e.node < length nodes
netted_within nodes marks graph e c =
    elim (Contains-append_cases (map plain (inputs_of nodes)) (wired nodes marks) e c) [
      | inl input ↦
          let found = map-Contains plain (inputs_of nodes) e input in
          let at = listed_input nodes found.0 graph found.1 in
          subst (λ (x : Edge). x.node < length nodes) found.2 (slice_get_within nodes found.0 _ at)
      | inr later ↦
          let found = wired_cases nodes marks (length nodes) e later in
          elim found.3 [
            | inl node ↦ subst (λ (x : Edge). x.node < length nodes) node found.1
            | inr operand ↦ let below = operand_below nodes found.0 e graph operand.1 in omega (arith, below.1, below.2)
          ]
    ]

pub netted_edges : (nodes : List Node) (marks : List Bool) → IsGraph nodes → All (λ e. e.node < length nodes) (netted nodes (wired nodes marks))
netted_edges nodes marks graph =
    All_from_places (λ (e : Edge). e.node < length nodes) (netted nodes (wired nodes marks)) (λ k e at. netted_within nodes marks graph e (Contains_at (netted nodes (wired nodes marks)) k e at))

-- the node of a root has a net, where it is not constant
pub reached_netted : (nodes : List Node) (roots : List Edge) (marks : List Bool) (k : ℕ) → IsGraph nodes → AreReached nodes roots marks → IsReached nodes roots k → 0 < k → Contains (netted nodes (wired nodes marks)) (plain k)
reached_netted nodes roots marks k graph are reached some =
    let marked = are.complete k reached in
    let within : k < length nodes = (let lt = mark_within marks k marked in omega (arith, lt, are.len)) in
    elim (node_cases nodes k graph some within) [
      | inl input ↦ Contains-append_left (map plain (inputs_of nodes)) (wired nodes marks) (plain k) (Contains-map plain (inputs_of nodes) k input)
      | inr and ↦ Contains-append_right (map plain (inputs_of nodes)) (wired nodes marks) (plain k) (node_wired nodes marks (length nodes) k within (and_from (get_or marks k false) (is_some (pair_at nodes k)) marked and))
    ]
