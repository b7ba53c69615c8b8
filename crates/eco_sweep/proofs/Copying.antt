-- Copies of nodes, added one by one.
use Rattle.std.proofs.Common.{◌≡◌, ℕ, zero, suc, ◌+◌, ◌<◌, ◌≤◌, Bool, false, ◌&&◌, cond, eqb, eq-eqb, ne_eqb, List, [], ◌∷◌, ◌++◌, Some, length, inl, inr, refl, sym, ◌∙◌, ap, subst, arith, length-append}
use Rattle.std.specs.List.{slice_get}
use Rattle.std.proofs.lemmas.Option.{none-some, same_Some, slice_get_within}
use Rattle.eco_lists.proofs.Places.{push_cases, slice_get-append_left, slice_get-push_last}
use Rattle.eco_aig.specs.declared.edge.Edge.{Edge}
use Rattle.eco_aig.specs.declared.node.Node.{Node}
use Rattle.eco_aig.specs.declared.node.Node.TheVariants.{Zero, Input, And}
use Rattle.eco_aig.specs.Edges.{value_of, plain}
use Rattle.eco_aig.specs.Graph.{FitsNode, IsValuation, IsEdge, IsGraph, HasValue, Grows}
use Rattle.eco_aig.proofs.Conjunctions.{constant_bit}
use Rattle.eco_aig.proofs.Filling.{one_valuation, bit_agree}
use Rattle.eco_aig.proofs.Inputs.{listed_input}
use Rattle.eco_tseitin.proofs.Filling.{valuation_with}
use Rattle.eco_sweep.specs.Parts.{Carries, Mirrors, IsCopy, AreOperandCopies}

-- two maps agree at the first n numbers
abbrev pub AgreeBelow : ℕ → (ℕ → Bool) → (ℕ → Bool) → Type 0
AgreeBelow n w u = (k : ℕ) → k < n → w k ≡ u k

-- a valuation of a graph goes on to a graph that has more behind it, with any bits at the new inputs
pub goes_on : (old new : List Node) (u base : ℕ → Bool) → IsGraph old → IsGraph new → ((k : ℕ) (node : Node) → slice_get old k ≡ Some node → slice_get new k ≡ Some node) → IsValuation old u → AgreeBelow (length old) base u → (v : ℕ → Bool) × IsValuation new v × AgreeBelow (length old) v u × ((k number : ℕ) → slice_get new k ≡ Some (Input number) → v k ≡ base k)
goes_on old new u base graph larger stays valuation agree =
    let whole = valuation_with new base larger in
    let older : IsValuation old whole.0 = record { fits = λ k node at. whole.1.fits k node (stays k node at) } in (
      whole.0,
      whole.1,
      one_valuation old whole.0 u graph older valuation (λ number listed.
          let at = listed_input old number graph listed in
          whole.2 number number (stays number (Input number) at) ∙ agree number (slice_get_within old number (Input number) at)),
      whole.2,
    )

-- what a new copy has to be: an edge of the larger part, to which each valuation of the part goes on with the node's bit
pub record Continues (whole : List Node) (nodes : List ℕ) (old new : List Node) (copies : List Edge) (k : ℕ) (e : Edge) : Type 0 where
  pub within : IsEdge new e
  pub longer : length old ≤ length new
  pub on : (w u : ℕ → Bool) → IsValuation whole w → Carries nodes old copies w u → (v : ℕ → Bool) × IsValuation new v × AgreeBelow (length old) v u × (value_of v e ≡ w k)

-- one more copy
pub mirrors_more : (whole : List Node) (nodes : List ℕ) (old new : List Node) (copies : List Edge) (k : ℕ) (e : Edge) → slice_get nodes (length copies) ≡ Some k → Mirrors whole nodes old copies → Continues whole nodes old new copies k e → Mirrors whole nodes new (copies ++ e ∷ [])
mirrors_more whole nodes old new copies k e next mirrors more = record {
  within = λ i c at. elim (push_cases copies e i c at) [
    | inl before ↦ (let lt = mirrors.within i c before in omega (arith, lt, more.longer))
    | inr here ↦ subst (IsEdge new) (sym here.1) more.within
  ];
  carried = λ w valuation.
      let before = mirrors.carried w valuation in
      let after = more.on w before.0 valuation before.1 in (
        after.0,
        record {
          valuation = after.1;
          same = λ i j c at_node at_copy. elim (push_cases copies e i c at_copy) [
            | inl old_copy ↦
                bit_agree after.0 before.0 c (after.2 c.node (mirrors.within i c old_copy)) ∙ before.1.same i j c at_node old_copy
            | inr here ↦
                let same : k ≡ j = same_Some k j (sym next ∙ ap (slice_get nodes) (sym here.0) ∙ at_node) in
                ap (value_of after.0) here.1 ∙ after.3 ∙ ap w same
          ];
        },
      );
}

-- no copies yet
pub mirrors_none : (whole : List Node) (nodes : List ℕ) → Mirrors whole nodes (Zero ∷ []) []
mirrors_none whole nodes = record {
  within = λ i c at. absurd (none-some c at);
  carried = λ w valuation. (λ _. false, record { valuation = record { fits = by }; same = λ i k c at_node at_copy. absurd (none-some c at_copy) });
}
  where
    by : (k : ℕ) (node : Node) → slice_get (Zero ∷ []) k ≡ Some node → FitsNode (λ _. false) node false
    by zero node at = subst (λ (n : Node). FitsNode (λ _. false) n false) (same_Some Zero node at) refl
    by (suc k) node at = absurd (none-some node at)

-- the constant is its own copy
pub continues_constant : (whole : List Node) (nodes : List ℕ) (part : List Node) (copies : List Edge) → IsGraph whole → IsGraph part → Continues whole nodes part part copies 0 (plain 0)
continues_constant whole nodes part copies graph of_part = record {
  within = slice_get_within part 0 Zero of_part.constant;
  longer = omega arith;
  on = λ w u valuation carries.
      (u, carries.valuation, λ k lt. refl, constant_bit part u of_part carries.valuation ∙ sym (constant_bit whole w graph valuation));
}

-- a new input has whatever bit the node has
pub continues_input : (whole : List Node) (nodes : List ℕ) (old new : List Node) (copies : List Edge) (k : ℕ) (e : Edge) → IsGraph old → IsGraph new → e ≡ plain (length old) → new ≡ old ++ Input (length old) ∷ [] → Continues whole nodes old new copies k e
continues_input whole nodes old new copies k e graph larger is_e is = record {
  within = omega (arith, longer, ap (λ (x : Edge). x.node) is_e);
  longer = omega (arith, longer);
  on = λ w u valuation carries.
      let base = with_bit u (length old) (w k) in
      let v = goes_on old new u base graph larger stays carries.valuation (λ j lt. ap (λ c. cond c (w k) (u j)) (ne_eqb j (length old) (λ same. omega (arith, same, lt)))) in
      let last : slice_get new (length old) ≡ Some (Input (length old)) = ap (λ list. slice_get list (length old)) is ∙ slice_get-push_last old (Input (length old)) in
      (v.0, v.1, v.2, ap (value_of v.0) is_e ∙ v.3 (length old) (length old) last ∙ ap (λ c. cond c (w k) (u (length old))) (eq-eqb (length old) (length old) refl));
}
  where
    with_bit : (ℕ → Bool) → ℕ → Bool → ℕ → Bool
    with_bit u n bit j = cond (eqb j n) bit (u j)

    longer : length new ≡ length old + 1
    longer = ap length is ∙ length-append old (Input (length old) ∷ [])

    stays : (j : ℕ) (node : Node) → slice_get old j ≡ Some node → slice_get new j ≡ Some node
    stays j node at = ap (λ list. slice_get list j) is ∙ slice_get-append_left old (Input (length old) ∷ []) j node at

-- a conjunction has the bit of the node whose operands' copies it joins
pub continues_and : (whole : List Node) (nodes : List ℕ) (old new : List Node) (copies : List Edge) (k : ℕ) (a b e : Edge) → IsGraph old → IsGraph new → Grows old new 1 → AreOperandCopies whole nodes old copies k a b → HasValue new e (λ w. value_of w a && value_of w b) → Continues whole nodes old new copies k e
continues_and whole nodes old new copies k a b e graph larger grows are has = record {
  within = has.within;
  longer = omega (arith, ap length grows.behind, length-append old grows.added);
  on = λ w u valuation carries.
      let v = goes_on old new u u graph larger stays carries.valuation (λ j lt. refl) in
      let first : value_of v.0 a ≡ value_of u a = bit_agree v.0 u a (v.2 a.node are.first_within) in
      let second : value_of v.0 b ≡ value_of u b = bit_agree v.0 u b (v.2 b.node are.second_within) in
      (v.0, v.1, v.2, has.value v.0 v.1 ∙ ap (λ x. x && value_of v.0 b) first ∙ ap (λ x. value_of u a && x) second ∙ sym (are.conjunction w u valuation carries));
}
  where
    stays : (j : ℕ) (node : Node) → slice_get old j ≡ Some node → slice_get new j ≡ Some node
    stays j node at = ap (λ list. slice_get list j) grows.behind ∙ slice_get-append_left old grows.added j node at

-- what the copies of an and-node's operands are
pub operand_copies : (whole : List Node) (nodes : List ℕ) (part : List Node) (copies : List Edge) (k : ℕ) (a b x y : Edge) → slice_get whole k ≡ Some (And a b) → IsCopy nodes part copies a x → IsCopy nodes part copies b y → AreOperandCopies whole nodes part copies k x y
operand_copies whole nodes part copies k a b x y at first second = record {
  first_within = first.within;
  second_within = second.within;
  conjunction = λ w u valuation carries.
      valuation.fits k (And a b) at ∙ ap (λ p. p && value_of w b) (sym (first.same w u carries)) ∙ ap (λ p. value_of u x && p) (sym (second.same w u carries));
}
