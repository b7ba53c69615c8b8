-- Edges that join two others, and trees of them.
use Rattle.std.proofs.Common.{◌≡◌, ℕ, ◌<◌, ◌≤◌, Bool, List, [], ◌∷◌, ◌++◌, Some, length, drop, length-append, append_assoc, sym, ◌∙◌, ap, subst, arith}
use Rattle.std.specs.List.{All, slice_get}
use Rattle.std.proofs.lemmas.Option.{same_Some}
use Rattle.std.proofs.lemmas.List.Elements.{All-nil, All-cons, All-append, All-weaker, All-head}
use Rattle.eco_aig.specs.declared.edge.Edge.{Edge}
use Rattle.eco_aig.specs.declared.node.Node.{Node}
use Rattle.eco_lists.specs.Bits.{exactly_one}
use Rattle.eco_aig.specs.Graph.{IsGraph, pair_at}
use Rattle.eco_aig.proofs.Conjunctions.{pair_at_node}
use Rattle.eco_aig.proofs.Exclusives.{one_pair, one_exclusive}
use Rattle.eco_splice.specs.declared.join.Join.{Join}
use Rattle.eco_splice.specs.declared.join.Join.TheVariants.{Conjunction, Parity}
use Rattle.eco_splice.specs.Trees.{Joins, Meets, Spans, leaf, inner}

-- an edge joins two edges alone
pub one_join : (nodes : List Node) (join : Join) (e a b x y : Edge) → Joins nodes join e a b → Joins nodes join e x y → (a ≡ x) × (b ≡ y)
one_join nodes Conjunction e a b x y first second = one_pair nodes e.node a b x y first.1 second.1
one_join nodes Parity e a b x y first second = one_exclusive nodes e.node a b x y first second

-- the edges that are joined go to earlier nodes
joins_earlier : (nodes : List Node) (join : Join) (e a b : Edge) → IsGraph nodes → Joins nodes join e a b → (a.node < e.node) × (b.node < e.node)
joins_earlier nodes Conjunction e a b graph joins =
    let are = graph.operands e.node a b (pair_at_node nodes e.node a b joins.1) in
    (omega (arith, are.second, are.before), are.before)
joins_earlier nodes Parity e a b graph joins =
    let outer = graph.operands e.node joins.both joins.neither (pair_at_node nodes e.node joins.both joins.neither joins.operands) in
    let own = graph.operands joins.both.node a b (pair_at_node nodes joins.both.node a b joins.of_both) in
    (omega (arith, outer.second, outer.before, own.second, own.before), omega (arith, outer.second, outer.before, own.before))

-- an edge is met at an operand that goes to its node
pub meets_node : (join : Join) (e x : Edge) → Meets join e x → e.node ≡ x.node
meets_node Conjunction e x meets = ap (λ y. y.node) meets
meets_node Parity e x meets = meets

-- the operands go to no later node than the edge
spans_earlier : (nodes : List Node) (join : Join) (e : Edge) (xs : List Edge) (sign : Bool) → IsGraph nodes → Spans nodes join e xs sign → All (λ x. x.node ≤ e.node) xs
spans_earlier nodes join e xs sign graph (leaf d x meets) =
    let same = meets_node join e x meets in
    All-cons (λ y. y.node ≤ e.node) x [] (omega (arith, same)) (All-nil (λ y. y.node ≤ e.node))
spans_earlier nodes join e xs sign graph (inner d a b first second s t joins one other) =
    let below = joins_earlier nodes join e a b graph joins in
    All-append (λ y. y.node ≤ e.node) first second
    (All-weaker (λ y. y.node ≤ a.node) (λ y. y.node ≤ e.node) (λ y le. let lt = below.0 in omega (arith, le, lt)) first (spans_earlier nodes join a first s graph one))
    (All-weaker (λ y. y.node ≤ b.node) (λ y. y.node ≤ e.node) (λ y le. let lt = below.1 in omega (arith, le, lt)) second (spans_earlier nodes join b second t graph other))

-- there is an operand
pub spans_some : (nodes : List Node) (join : Join) (e : Edge) (xs : List Edge) (sign : Bool) → Spans nodes join e xs sign → 1 ≤ length xs
spans_some nodes join e xs sign (leaf d x meets) = omega arith
spans_some nodes join e xs sign (inner d a b first second s t joins one other) =
    let some = spans_some nodes join a first s one in
    let count = length-append first second in
    omega (arith, some, count)

-- the first of some elements
pub first_of : {X : Type 0} (own rest more : List X) (x : X) → 1 ≤ length own → x ∷ rest ≡ own ++ more → (tail : List X) × (own ≡ x ∷ tail) × (rest ≡ tail ++ more)
first_of [] rest more x some same = absurd (omega (arith, some))
first_of (y ∷ tail) rest more x some same =
    let is : x ≡ y = same_Some x y (ap (λ list. slice_get list 0) same) in
    (tail, ap (λ z. z ∷ tail) (sym is), ap (λ list. drop 1 list) same)

-- where the edge is met at the first operand, it is a leaf
pub spans_leaf : (nodes : List Node) (join : Join) (e x : Edge) (own rest more : List Edge) (sign : Bool) → IsGraph nodes → Meets join e x → Spans nodes join e own sign → x ∷ rest ≡ own ++ more → (sign ≡ exactly_one e.complemented x.complemented) × (rest ≡ more)
spans_leaf nodes join e x own rest more sign graph meets (leaf d y at) same =
    let is : x ≡ y = same_Some x y (ap (λ list. slice_get list 0) same) in
    (ap (λ z. exactly_one e.complemented z.complemented) (sym is), ap (λ list. drop 1 list) same)
spans_leaf nodes join e x own rest more sign graph meets (inner d a b first second s t joins one other) same =
    let below = joins_earlier nodes join e a b graph joins in
    let split = first_of first rest (second ++ more) x (spans_some nodes join a first s one) (same ∙ append_assoc first second more) in
    let earlier : x.node ≤ a.node = All-head (λ (y : Edge). y.node ≤ a.node) x split.0 (subst (All (λ (y : Edge). y.node ≤ a.node)) split.1 (spans_earlier nodes join a first s graph one)) in
    let here = meets_node join e x meets in
    let lt = below.0 in
    absurd (omega (arith, earlier, here, lt))
