-- An edge that has the structure of a gate has the gate's value.
use Rattle.std.proofs.Common.{◌≡◌, ℕ, ◌≤◌, Bool, true, false, not, ◌&&◌, ◌||◌, cond, List, [], ◌∷◌, Some, length, refl, sym, ◌∙◌, ap, subst, map, arith}
use Rattle.std.specs.List.{All, Contains, list_all, list_any}
use Rattle.std.proofs.Math.Bool.{not-not, and-true}
use Rattle.std.proofs.lemmas.List.{map-append, length-map}
use Rattle.std.proofs.lemmas.List.Elements.{All-nil, All-cons, All-head, All-tail, All-append, All-weaker}
use Rattle.std.proofs.lemmas.List.Folds.{list_all-append}
use Rattle.eco_lists.proofs.Members.{Contains_first, Contains_later}
use Rattle.eco_meaning.specs.declared.kind.Kind.{Kind}
use Rattle.eco_meaning.specs.declared.kind.Kind.TheVariants.{And, Nand, Or, Nor, Xor, Xnor, Buf, Not}
use Rattle.eco_meaning.specs.Gates.{apply, FitsKind, is_odd}
use Rattle.eco_aig.specs.declared.edge.Edge.{Edge}
use Rattle.eco_aig.specs.declared.node.Node.{Node}
use Rattle.eco_aig.specs.declared.node.Node.TheVariants.{And as Pair}
use Rattle.eco_lists.specs.Bits.{exactly_one}
use Rattle.eco_aig.specs.Edges.{bits_of, value_of, complement}
use Rattle.eco_aig.specs.Graph.{IsValuation, pair_at}
use Rattle.eco_aig.specs.Reached.{both_of, Reaches, itself, next}
use Rattle.eco_aig.proofs.Conjunctions.{pair_at_node, value_of-complement, neither_bit}
use Rattle.eco_lists.proofs.Odd.{one_assoc}
use Rattle.eco_aig.proofs.Exclusives.{pair_bit, signed_bit, exclusive_bit}
use Rattle.eco_aig.proofs.Reaching.{reaches_on}
use Rattle.eco_splice.specs.declared.join.Join.{Join}
use Rattle.eco_splice.specs.declared.join.Join.TheVariants.{Conjunction, Parity}
use Rattle.eco_splice.specs.declared.line.Line.{Line}
use Rattle.eco_splice.specs.Lines.{IsLine}
use Rattle.eco_splice.specs.Trees.{Joins, Spans, leaf, inner, IsBuilt, IsBuiltAs}
use Rattle.eco_splice.proofs.BitLemmas.{one_comm, one_twice, sign_bit, two_signs, odd_one, odd_append}
use Rattle.eco_splice.proofs.JoinLemmas.{meets_node}

-- ---- what is reached
-- what reaches an and-node reaches its operands
pair_first : (nodes : List Node) (start k : ℕ) (a b : Edge) → pair_at nodes k ≡ Some (a, b) → Reaches nodes start k → Reaches nodes start a.node
pair_first nodes start k a b at reached =
    next k a reached (subst (λ pair. Contains (both_of pair) a) (sym at) (Contains_first a (b ∷ [])))

pair_second : (nodes : List Node) (start k : ℕ) (a b : Edge) → pair_at nodes k ≡ Some (a, b) → Reaches nodes start k → Reaches nodes start b.node
pair_second nodes start k a b at reached =
    next k b reached (subst (λ pair. Contains (both_of pair) b) (sym at) (Contains_later a b (b ∷ []) (Contains_first b [])))

joins_reach : (nodes : List Node) (join : Join) (e a b : Edge) → Joins nodes join e a b → Reaches nodes e.node a.node × Reaches nodes e.node b.node
joins_reach nodes Conjunction e a b joins = (pair_first nodes e.node e.node a b joins.1 itself, pair_second nodes e.node e.node a b joins.1 itself)
joins_reach nodes Parity e a b joins =
    let below = pair_first nodes e.node e.node joins.both joins.neither joins.operands itself in
    (pair_first nodes e.node joins.both.node a b joins.of_both below, pair_second nodes e.node joins.both.node a b joins.of_both below)

-- the root of a tree reaches its leaves
spans_reach : (nodes : List Node) (join : Join) (e : Edge) (xs : List Edge) (sign : Bool) → Spans nodes join e xs sign → All (λ x. Reaches nodes e.node x.node) xs
spans_reach nodes join e xs sign (leaf d x meets) =
    All-cons (λ (y : Edge). Reaches nodes e.node y.node) x [] (subst (Reaches nodes e.node) (meets_node join e x meets) itself) (All-nil (λ (y : Edge). Reaches nodes e.node y.node))
spans_reach nodes join e xs sign (inner d a b first second s t joins one other) =
    let both = joins_reach nodes join e a b joins in
    All-append (λ (y : Edge). Reaches nodes e.node y.node) first second
    (All-weaker (λ (y : Edge). Reaches nodes a.node y.node) (λ y. Reaches nodes e.node y.node) (λ y more. reaches_on nodes e.node a.node y.node both.0 more) first (spans_reach nodes join a first s one))
    (All-weaker (λ (y : Edge). Reaches nodes b.node y.node) (λ y. Reaches nodes e.node y.node) (λ y more. reaches_on nodes e.node b.node y.node both.1 more) second (spans_reach nodes join b second t other))

-- ---- values
-- the conjunction of all leaves
spans_ones : (nodes : List Node) (e : Edge) (xs : List Edge) (sign : Bool) → Spans nodes Conjunction e xs sign → (u : ℕ → Bool) → IsValuation nodes u → list_all (λ bit. bit) (bits_of u xs) ≡ value_of u e
spans_ones nodes e xs sign (leaf d x meets) u valuation = and-true (value_of u x) ∙ ap (value_of u) (sym meets)
spans_ones nodes e xs sign (inner d a b first second s t joins one other) u valuation =
    ap (list_all (λ bit. bit)) (map-append (value_of u) first second) ∙ list_all-append (λ bit. bit) (bits_of u first) (bits_of u second)
    ∙ ap (λ z. z && list_all (λ bit. bit) (bits_of u second)) (spans_ones nodes a first s one u valuation) ∙ ap (λ z. value_of u a && z) (spans_ones nodes b second t other u valuation)
    ∙ sym (signed_bit u e false joins.0 ∙ pair_bit nodes e.node a b joins.1 u valuation)

-- the parity of all leaves
spans_odd : (nodes : List Node) (e : Edge) (xs : List Edge) (sign : Bool) → Spans nodes Parity e xs sign → (u : ℕ → Bool) → IsValuation nodes u → is_odd (bits_of u xs) ≡ exactly_one sign (value_of u e)
spans_odd nodes e xs sign (leaf d x meets) u valuation =
    odd_one (value_of u x) ∙ ap (λ n. cond x.complemented (not (u n)) (u n)) (sym meets) ∙ two_signs e.complemented x.complemented (u e.node)
spans_odd nodes e xs sign (inner d a b first second s t joins one other) u valuation =
    ap is_odd (map-append (value_of u) first second) ∙ odd_append (bits_of u first) (bits_of u second)
    ∙ ap (λ z. exactly_one z (is_odd (bits_of u second))) (spans_odd nodes a first s one u valuation) ∙ ap (exactly_one (exactly_one s (value_of u a))) (spans_odd nodes b second t other u valuation)
    ∙ two_odd s (value_of u a) t (value_of u b)
    ∙ sym (ap (exactly_one (exactly_one e.complemented (exactly_one s t))) (sign_bit e.complemented (u e.node) ∙ ap (exactly_one e.complemented) (exclusive_bit nodes e.node a b joins u valuation))
    ∙ drawn e.complemented (exactly_one s t) (exactly_one (value_of u a) (value_of u b)))
  where
    two_odd : (s x t y : Bool) → exactly_one (exactly_one s x) (exactly_one t y) ≡ exactly_one (exactly_one s t) (exactly_one x y)
    two_odd s x t y =
        sym (one_assoc s x (exactly_one t y)) ∙ ap (exactly_one s) (one_assoc x t y ∙ ap (λ z. exactly_one z y) (one_comm x t) ∙ sym (one_assoc t x y)) ∙ one_assoc s t (exactly_one x y)

    drawn : (c s x : Bool) → exactly_one (exactly_one c s) (exactly_one c x) ≡ exactly_one s x
    drawn c s x = one_assoc (exactly_one c s) c x ∙ ap (λ z. exactly_one z x) (one_twice c s)

-- ---- lines
-- disjunctions by complements
one_or : (x y : Bool) → not (not x && y) ≡ (x || not y)
one_or true y = refl
one_or false y = refl

ones_of_complements : (u : ℕ → Bool) (edges : List Edge) → not (list_all (λ bit. bit) (bits_of u (map complement edges))) ≡ list_any (λ bit. bit) (bits_of u edges)
ones_of_complements u [] = refl
ones_of_complements u (e ∷ edges) =
    let ones = list_all (λ bit. bit) (bits_of u (map complement edges)) in
    ap (λ x. not (x && ones)) (value_of-complement u e) ∙ one_or (value_of u e) ones ∙ ap (λ x. value_of u e || x) (ones_of_complements u edges)

complements_reached : (nodes : List Node) (start : ℕ) (edges : List Edge) → All (λ x. Reaches nodes start x.node) (map complement edges) → All (λ x. Reaches nodes start x.node) edges
complements_reached nodes start [] all = All-nil (λ (e : Edge). Reaches nodes start e.node)
complements_reached nodes start (x ∷ edges) all =
    let head : Reaches nodes start x.node = All-head (λ (e : Edge). Reaches nodes start e.node) (complement x) (map complement edges) all in
    All-cons (λ (e : Edge). Reaches nodes start e.node) x edges head
    (complements_reached nodes start edges (All-tail (λ (e : Edge). Reaches nodes start e.node) (complement x) (map complement edges) all))

-- what a line's gate is to be, by its parts
record Fits (nodes : List Node) (kind : Kind) (edge : Edge) (operands : List Edge) : Type 0 where
  fits : FitsKind kind (length operands)
  value : (u : ℕ → Bool) → IsValuation nodes u → apply kind (bits_of u operands) ≡ value_of u edge
  reach : All (λ x. Reaches nodes edge.node x.node) operands

-- the one operand is an edge to the line's node
alone : (nodes : List Node) (edge x : Edge) (operands : List Edge) → operands ≡ x ∷ [] → edge.node ≡ x.node → All (λ y. Reaches nodes edge.node y.node) operands
alone nodes edge x operands is same =
    subst (All (λ (y : Edge). Reaches nodes edge.node y.node)) (sym is)
    (All-cons (λ (y : Edge). Reaches nodes edge.node y.node) x [] (subst (Reaches nodes edge.node) same itself) (All-nil (λ (y : Edge). Reaches nodes edge.node y.node)))

enough : (n : ℕ) → 2 ≤ n → 1 ≤ n
enough n many = omega (arith, many)

built_fits : (nodes : List Node) (kind : Kind) (edge : Edge) (operands : List Edge) → IsBuiltAs nodes kind edge operands → Fits nodes kind edge operands
built_fits nodes And edge operands built = record {
  fits = enough (length operands) built.many;
  value = spans_ones nodes edge operands false built.tree;
  reach = spans_reach nodes Conjunction edge operands false built.tree;
}
built_fits nodes Nand edge operands built = record {
  fits = enough (length operands) built.many;
  value = λ u valuation. ap not (spans_ones nodes (complement edge) operands false built.tree u valuation ∙ value_of-complement u edge) ∙ not-not (value_of u edge);
  reach = spans_reach nodes Conjunction (complement edge) operands false built.tree;
}
built_fits nodes Or edge operands built = record {
  fits = enough (length operands) (subst (λ n. 2 ≤ n) (length-map operands complement) built.many);
  value = λ u valuation.
      sym (ones_of_complements u operands) ∙ ap not (spans_ones nodes (complement edge) (map complement operands) false built.tree u valuation ∙ value_of-complement u edge) ∙ not-not (value_of u edge);
  reach = complements_reached nodes edge.node operands (spans_reach nodes Conjunction (complement edge) (map complement operands) false built.tree);
}
built_fits nodes Nor edge operands built = record {
  fits = enough (length operands) (subst (λ n. 2 ≤ n) (length-map operands complement) built.many);
  value = λ u valuation.
      ap not (sym (ones_of_complements u operands)) ∙ not-not (list_all (λ bit. bit) (bits_of u (map complement operands))) ∙ spans_ones nodes edge (map complement operands) false built.tree u valuation;
  reach = complements_reached nodes edge.node operands (spans_reach nodes Conjunction edge (map complement operands) false built.tree);
}
built_fits nodes Xor edge operands built = record {
  fits = enough (length operands) built.many;
  value = spans_odd nodes edge operands false built.tree;
  reach = spans_reach nodes Parity edge operands false built.tree;
}
built_fits nodes Xnor edge operands built = record {
  fits = enough (length operands) built.many;
  value = λ u valuation. ap not (spans_odd nodes (complement edge) operands false built.tree u valuation ∙ value_of-complement u edge) ∙ not-not (value_of u edge);
  reach = spans_reach nodes Parity (complement edge) operands false built.tree;
}
built_fits nodes Buf edge operands built = record {
  fits = ap length built;
  value = λ u valuation. ap (λ list. apply Buf (bits_of u list)) built;
  reach = alone nodes edge edge operands built refl;
}
built_fits nodes Not edge operands built = record {
  fits = ap length built;
  value = λ u valuation. ap (λ list. apply Not (bits_of u list)) built ∙ ap not (value_of-complement u edge) ∙ not-not (value_of u edge);
  reach = alone nodes edge (complement edge) operands built refl;
}

-- a line that is built of the nodes between gives its edge
pub built_line : (nodes : List Node) (line : Line) → IsBuilt nodes line → IsLine nodes line
built_line nodes line built =
    let is = built_fits nodes line.kind line.edge line.operands.items built.structure in
    record { fits = is.fits; value = is.value; reach = is.reach }
