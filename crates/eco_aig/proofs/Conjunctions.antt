-- The values of conjunctions, and of what is made of them.
use Rattle.std.proofs.Common.{◌≡◌, ℕ, Bool, true, false, not, ◌&&◌, ◌||◌, eqb, ltb, cond, Some, None, List, [], ◌∷◌, zero, suc, refl, sym, ◌∙◌, ap, subst, arith}
use Rattle.std.specs.List.{slice_get}
use Rattle.std.proofs.lemmas.Option.{none-some, same_Some, slice_get_within}
use Rattle.std.proofs.lemmas.Bool.{eqb-true}
use Rattle.std.proofs.Math.Bool.{and_comm, and-true, and-false, and-not_self}
use Rattle.eco_aig.specs.declared.edge.Edge.{Edge}
use Rattle.eco_aig.specs.declared.node.Node.{Node}
use Rattle.eco_aig.specs.declared.node.Node.TheVariants.{Zero, Input, And}
use Rattle.eco_lists.specs.Bits.{exactly_one}
use Rattle.eco_aig.specs.Edges.{plain, complement, value_of}
use Rattle.eco_aig.specs.Graph.{IsValuation, IsEdge, HasValue, Grows, IsGraph, AreOperands, pair_at, simple_and, in_order}
use Rattle.eco_aig.proofs.Growing.{value_stays}

-- the and-node of a pair
pub pair_at_node : (nodes : List Node) (k : ℕ) (a b : Edge) → pair_at nodes k ≡ Some (a, b) → slice_get nodes k ≡ Some (And a b)
pair_at_node [] k a b e = absurd (none-some (a, b) e)
pair_at_node (Zero ∷ nodes) zero a b e = absurd (none-some (a, b) e)
pair_at_node (Input number ∷ nodes) zero a b e = absurd (none-some (a, b) e)
pair_at_node (And x y ∷ nodes) zero a b e = let f : (x, y) ≡ (a, b) = same_Some (x, y) (a, b) e in ap (λ p. Some (And p.0 p.1)) f
pair_at_node (x ∷ nodes) (suc k) a b e = pair_at_node nodes k a b e

-- the operands of an and-node are edges of the graph
pub operands_within : (nodes : List Node) (k : ℕ) (a b : Edge) → IsGraph nodes → pair_at nodes k ≡ Some (a, b) → IsEdge nodes a × IsEdge nodes b
operands_within nodes k a b graph pair =
    let at = pair_at_node nodes k a b pair in
    let within = slice_get_within nodes k (And a b) at in
    let is = graph.operands k a b at in
    (omega (arith, within, is.second, is.before), omega (arith, within, is.before))

-- under a valuation the constant has bit 0
pub constant_bit : (nodes : List Node) (w : ℕ → Bool) → IsGraph nodes → IsValuation nodes w → w 0 ≡ false
constant_bit nodes w graph valuation = valuation.fits 0 Zero graph.constant

-- the constant edges have their values
pub zero_value : (nodes : List Node) → IsGraph nodes → HasValue nodes (plain 0) (λ w. false)
zero_value nodes graph =
    record { within = slice_get_within nodes 0 Zero graph.constant; value = λ w valuation. constant_bit nodes w graph valuation }

pub one_value : (nodes : List Node) → IsGraph nodes → HasValue nodes (complement (plain 0)) (λ w. true)
one_value nodes graph = record {
  within = slice_get_within nodes 0 Zero graph.constant;
  value = λ w valuation. ap not (constant_bit nodes w graph valuation);
}

and_self : (x : Bool) → (x && x) ≡ x
and_self true = refl
and_self false = refl

not_and : (x : Bool) → (not x && x) ≡ false
not_and true = refl
not_and false = refl

pub exactly_one_by_or : (x y : Bool) → ((x && not y) || (not x && y)) ≡ exactly_one x y
exactly_one_by_or true true = refl
exactly_one_by_or true false = refl
exactly_one_by_or false true = refl
exactly_one_by_or false false = refl

pub choice_by_or : (s x y : Bool) → ((s && x) || (not s && y)) ≡ cond s x y
choice_by_or true true y = refl
choice_by_or true false y = refl
choice_by_or false x true = refl
choice_by_or false x false = refl

or_by_and : (x y : Bool) → not (not x && not y) ≡ (x || y)
or_by_and true y = refl
or_by_and false true = refl
or_by_and false false = refl

-- the bit of an edge by its parts
pub value_is : (w : ℕ → Bool) (e : Edge) (sign bit : Bool) → e.complemented ≡ sign → w e.node ≡ bit → value_of w e ≡ cond sign (not bit) bit
value_is w e sign bit s b = ap (λ c. cond c (not (w e.node)) (w e.node)) s ∙ ap (λ c. cond sign (not c) c) b

pub value_of-complement : (w : ℕ → Bool) (e : Edge) → value_of w (complement e) ≡ not (value_of w e)
value_of-complement w e = by e.complemented (w e.node)
  where
    by : (sign bit : Bool) → cond (not sign) (not bit) bit ≡ not (cond sign (not bit) bit)
    by true true = refl
    by true false = refl
    by false bit = refl

-- the bit of a conjunction that needs no node
simple_bit : (w : ℕ → Bool) (a b e : Edge) → w 0 ≡ false → simple_and a b ≡ Some e → value_of w e ≡ (value_of w a && value_of w b)
simple_bit w a b e zero_bit simple =
    by (eqb a.node 0) (eqb b.node 0) (eqb a.node b.node) a.complemented b.complemented refl refl refl refl refl simple
  where
    node_zero : (x : Edge) (sign : Bool) → eqb x.node 0 ≡ true → x.complemented ≡ sign → value_of w x ≡ cond sign true false
    node_zero x true t s = value_is w x true false s (ap w (eqb-true x.node 0 t) ∙ zero_bit)
    node_zero x false t s = value_is w x false false s (ap w (eqb-true x.node 0 t) ∙ zero_bit)

    is_zero : plain 0 ≡ e → value_of w e ≡ false
    is_zero same = sym (ap (value_of w) same) ∙ zero_bit

    by : (t0 t1 t2 c d : Bool) → eqb a.node 0 ≡ t0 → eqb b.node 0 ≡ t1 → eqb a.node b.node ≡ t2 → a.complemented ≡ c → b.complemented ≡ d → cond t0 (Some (cond c b (plain 0))) (cond t1 (Some (cond d a (plain 0))) (cond t2 (Some (cond c (cond d a (plain 0)) (cond d (plain 0) a))) None)) ≡ Some e → value_of w e ≡ (value_of w a && value_of w b)
    by true t1 t2 true d z0 z1 z2 sc sd h =
        sym (ap (value_of w) (same_Some b e h)) ∙ sym (ap (λ x. x && value_of w b) (node_zero a true z0 sc))
    by true t1 t2 false d z0 z1 z2 sc sd h =
        is_zero (same_Some (plain 0) e h) ∙ sym (ap (λ x. x && value_of w b) (node_zero a false z0 sc))
    by false true t2 c true z0 z1 z2 sc sd h =
        sym (ap (value_of w) (same_Some a e h)) ∙ sym (and-true (value_of w a)) ∙ sym (ap (λ x. value_of w a && x) (node_zero b true z1 sd))
    by false true t2 c false z0 z1 z2 sc sd h =
        is_zero (same_Some (plain 0) e h) ∙ sym (and-false (value_of w a)) ∙ sym (ap (λ x. value_of w a && x) (node_zero b false z1 sd))
    by false false true true true z0 z1 z2 sc sd h =
        let va = value_is w a true (w a.node) sc refl in
        let vb = value_is w b true (w a.node) sd (sym (ap w (eqb-true a.node b.node z2))) in
        sym (ap (value_of w) (same_Some a e h)) ∙ sym (and_self (value_of w a)) ∙ ap (λ x. value_of w a && x) (va ∙ sym vb)
    by false false true true false z0 z1 z2 sc sd h =
        let va = value_is w a true (w a.node) sc refl in
        let vb = value_is w b false (w a.node) sd (sym (ap w (eqb-true a.node b.node z2))) in
        is_zero (same_Some (plain 0) e h) ∙ sym (not_and (w a.node)) ∙ sym (ap (λ x. x && value_of w b) va ∙ ap (λ x. not (w a.node) && x) vb)
    by false false true false true z0 z1 z2 sc sd h =
        let va = value_is w a false (w a.node) sc refl in
        let vb = value_is w b true (w a.node) sd (sym (ap w (eqb-true a.node b.node z2))) in
        is_zero (same_Some (plain 0) e h) ∙ sym (and-not_self (w a.node)) ∙ sym (ap (λ x. x && value_of w b) va ∙ ap (λ x. w a.node && x) vb)
    by false false true false false z0 z1 z2 sc sd h =
        let va = value_is w a false (w a.node) sc refl in
        let vb = value_is w b false (w a.node) sd (sym (ap w (eqb-true a.node b.node z2))) in
        sym (ap (value_of w) (same_Some a e h)) ∙ sym (and_self (value_of w a)) ∙ ap (λ x. value_of w a && x) (va ∙ sym vb)
    by false false false c d z0 z1 z2 sc sd h = absurd (none-some e h)

-- it goes to the constant or to the node of one of the two
simple_within : (nodes : List Node) (a b e : Edge) → IsEdge nodes a → IsEdge nodes b → simple_and a b ≡ Some e → IsEdge nodes e
simple_within nodes a b e in_a in_b simple =
    by (eqb a.node 0) (eqb b.node 0) (eqb a.node b.node) a.complemented b.complemented simple
  where
    to_zero : plain 0 ≡ e → IsEdge nodes e
    to_zero same = subst (IsEdge nodes) same (omega (arith, in_a))

    by : (t0 t1 t2 c d : Bool) → cond t0 (Some (cond c b (plain 0))) (cond t1 (Some (cond d a (plain 0))) (cond t2 (Some (cond c (cond d a (plain 0)) (cond d (plain 0) a))) None)) ≡ Some e → IsEdge nodes e
    by true t1 t2 true d h = subst (IsEdge nodes) (same_Some b e h) in_b
    by true t1 t2 false d h = to_zero (same_Some (plain 0) e h)
    by false true t2 c true h = subst (IsEdge nodes) (same_Some a e h) in_a
    by false true t2 c false h = to_zero (same_Some (plain 0) e h)
    by false false true true true h = subst (IsEdge nodes) (same_Some a e h) in_a
    by false false true true false h = to_zero (same_Some (plain 0) e h)
    by false false true false true h = to_zero (same_Some (plain 0) e h)
    by false false true false false h = subst (IsEdge nodes) (same_Some a e h) in_a
    by false false false c d h = absurd (none-some e h)

pub simple_value : (nodes : List Node) (a b e : Edge) → IsGraph nodes → IsEdge nodes a → IsEdge nodes b → simple_and a b ≡ Some e → HasValue nodes e (λ w. value_of w a && value_of w b)
simple_value nodes a b e graph in_a in_b simple = record {
  within = simple_within nodes a b e in_a in_b simple;
  value = λ w valuation. simple_bit w a b e (constant_bit nodes w graph valuation) simple;
}

-- the two edges, or the other way about
abbrev ordered_by : Bool → Edge → Edge → Edge × Edge
ordered_by t a b = cond t (a, b) (b, a)

-- there is no node of two edges whose conjunction needs none
pub simple_no_node : (nodes : List Node) (a b e : Edge) (k : ℕ) → IsGraph nodes → simple_and a b ≡ Some e → pair_at nodes k ≡ Some (in_order a b) → ⊥
simple_no_node nodes a b e k graph simple at =
    by_order (ltb a.node b.node) (graph.operands k (in_order a b).0 (in_order a b).1 (pair_at_node nodes k (in_order a b).0 (in_order a b).1 at))
  where
    by_tests : (t0 t1 t2 c d : Bool) → eqb a.node 0 ≡ t0 → eqb b.node 0 ≡ t1 → eqb a.node b.node ≡ t2 → (a.node ≡ 0 → ⊥) → (b.node ≡ 0 → ⊥) → (a.node ≡ b.node → ⊥) → cond t0 (Some (cond c b (plain 0))) (cond t1 (Some (cond d a (plain 0))) (cond t2 (Some (cond c (cond d a (plain 0)) (cond d (plain 0) a))) None)) ≡ Some e → ⊥
    by_tests true t1 t2 c d z0 z1 z2 na nb ne h = na (eqb-true a.node 0 z0)
    by_tests false true t2 c d z0 z1 z2 na nb ne h = nb (eqb-true b.node 0 z1)
    by_tests false false true c d z0 z1 z2 na nb ne h = ne (eqb-true a.node b.node z2)
    by_tests false false false c d z0 z1 z2 na nb ne h = none-some e h

    by_parts : (a.node ≡ 0 → ⊥) → (b.node ≡ 0 → ⊥) → (a.node ≡ b.node → ⊥) → ⊥
    by_parts na nb ne =
        by_tests (eqb a.node 0) (eqb b.node 0) (eqb a.node b.node) a.complemented b.complemented refl refl refl na nb ne simple

    by_order : (t : Bool) → AreOperands k (ordered_by t a b).0 (ordered_by t a b).1 → ⊥
    by_order true is = by_parts (λ h. omega (arith, is.first, h)) (λ h. omega (arith, is.first, is.second, h)) (λ h. omega (arith, is.second, h))
    by_order false is = by_parts (λ h. omega (arith, is.first, is.second, h)) (λ h. omega (arith, is.first, h)) (λ h. omega (arith, is.second, h))

-- the order of the operands is of no account to the value
pub ordered_bit : (w : ℕ → Bool) (a b : Edge) → (value_of w (in_order a b).0 && value_of w (in_order a b).1) ≡ (value_of w a && value_of w b)
ordered_bit w a b = by (ltb a.node b.node)
  where
    by : (t : Bool) → (value_of w (ordered_by t a b).0 && value_of w (ordered_by t a b).1) ≡ (value_of w a && value_of w b)
    by true = refl
    by false = and_comm (value_of w b) (value_of w a)

-- the value of the edge to the and-node of two edges
pub node_value : (nodes : List Node) (a b e : Edge) → e.complemented ≡ false → slice_get nodes e.node ≡ Some (And (in_order a b).0 (in_order a b).1) → HasValue nodes e (λ w. value_of w a && value_of w b)
node_value nodes a b e sign at = record {
  within = slice_get_within nodes e.node (And (in_order a b).0 (in_order a b).1) at;
  value = λ w valuation.
      value_is w e false (w e.node) sign refl ∙ valuation.fits e.node (And (in_order a b).0 (in_order a b).1) at ∙ ordered_bit w a b;
}

-- the same value said in other words
pub value_as : (nodes : List Node) (e : Edge) (f g : (ℕ → Bool) → Bool) → ((w : ℕ → Bool) → f w ≡ g w) → HasValue nodes e f → HasValue nodes e g
value_as nodes e f g same has = record { within = has.within; value = λ w valuation. has.value w valuation ∙ same w }

-- the complement of the conjunction of two complements
pub value_of_neither : (nodes : List Node) (a b p q e r : Edge) → p ≡ complement a → q ≡ complement b → r ≡ complement e → HasValue nodes e (λ w. value_of w p && value_of w q) → HasValue nodes r (λ w. value_of w a || value_of w b)
value_of_neither nodes a b p q e r not_a not_b not_e has = record {
  within = subst (IsEdge nodes) (sym not_e) has.within;
  value = λ w valuation.
      ap (value_of w) not_e ∙ value_of-complement w e ∙ ap not (has.value w valuation)
      ∙ ap (λ x. not (x && value_of w q)) (ap (value_of w) not_a ∙ value_of-complement w a)
      ∙ ap (λ x. not (not (value_of w a) && x)) (ap (value_of w) not_b ∙ value_of-complement w b)
      ∙ or_by_and (value_of w a) (value_of w b);
}

-- the disjunction of two edges that were made one behind the other
pub value_of_or : (first second third : List Node) (m n : ℕ) (p q e : Edge) (f g : (ℕ → Bool) → Bool) → HasValue first p f → Grows first second m → HasValue second q g → Grows second third n → HasValue third e (λ w. value_of w p || value_of w q) → HasValue third e (λ w. f w || g w)
value_of_or first second third m n p q e f g has_p grows has_q more has_e = record {
  within = has_e.within;
  value = λ w valuation.
      let old_p = value_stays second third n p f more (value_stays first second m p f grows has_p) in
      let old_q = value_stays second third n q g more has_q in
      has_e.value w valuation ∙ ap (λ x. x || value_of w q) (old_p.value w valuation) ∙ ap (λ x. f w || x) (old_q.value w valuation);
}

-- neither both nor none: just one
pub neither_bit : (x y : Bool) → (not (x && y) && not (not x && not y)) ≡ exactly_one x y
neither_bit true true = refl
neither_bit true false = refl
neither_bit false true = refl
neither_bit false false = refl
