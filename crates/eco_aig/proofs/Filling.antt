-- Bits given node by node: what one more node leaves, and that the inputs' bits determine a valuation.
use Rattle.std.proofs.Common.{◌≡◌, ℕ, zero, suc, ◌+◌, ◌<◌, ◌≤◌, inl, inr, Bool, false, not, ◌&&◌, cond, List, Some, length, get_or, set, sym, ◌∙◌, ap, subst, arith, length-set}
use Rattle.std.specs.List.{slice_get, Contains}
use Rattle.std.proofs.lemmas.Bool.{cases_eq}
use Rattle.std.proofs.lemmas.List.{get_or-set_same, get_or-set_other}
use Rattle.std.proofs.lemmas.Option.{same_Some, slice_get_within, slice_get-get_or}
use Rattle.eco_lists.specs.Bits.{bit_at}
use Rattle.eco_aig.specs.declared.edge.Edge.{Edge}
use Rattle.eco_aig.specs.declared.node.Node.{Node}
use Rattle.eco_aig.specs.declared.node.Node.TheVariants.{Zero, Input, And}
use Rattle.eco_aig.specs.Edges.{value_of}
use Rattle.eco_aig.specs.Graph.{FitsNode, IsValuation, IsGraph, AgreeAt, inputs_of}
use Rattle.eco_aig.proofs.Inputs.{listed_input, input_listed}

-- the operands go to nodes before the place
unfoldable pub OperandsBelow : ℕ → Node → Type 0
OperandsBelow k Zero = Unit {0}
OperandsBelow k (Input number) = Unit {0}
OperandsBelow k (And a b) = (a.node < k) × (b.node < k)

pub operands_below : (nodes : List Node) (k : ℕ) (node : Node) → IsGraph nodes → slice_get nodes k ≡ Some node → OperandsBelow k node
unfolding OperandsBelow
operands_below nodes k Zero graph at = tt
operands_below nodes k (Input number) graph at = tt
operands_below nodes k (And a b) graph at =
    let is = graph.operands k a b at in
    (omega (arith, is.second, is.before), is.before)

-- two maps with the same bits before the place give its node one value
pub bit_agree : (w u : ℕ → Bool) (e : Edge) → w e.node ≡ u e.node → value_of w e ≡ value_of u e
bit_agree w u e same = ap (λ bit. cond e.complemented (not bit) bit) same

pub fits_agree : (w u : ℕ → Bool) (k : ℕ) (node : Node) (bit : Bool) → OperandsBelow k node → ((j : ℕ) → j < k → w j ≡ u j) → FitsNode w node bit → FitsNode u node bit
unfolding OperandsBelow
fits_agree w u k Zero bit below same fits = fits
fits_agree w u k (Input number) bit below same fits = tt
fits_agree w u k (And a b) bit below same fits =
    fits ∙ ap (λ x. x && value_of w b) (bit_agree w u a (same a.node below.0)) ∙ ap (λ x. value_of u a && x) (bit_agree w u b (same b.node below.1))

-- the bits of the first k nodes fit them, and the inputs have the bits that they had
pub record IsFilledTo (nodes : List Node) (old : List Bool) (k : ℕ) (bits : List Bool) : Type 0 where
  pub len : length bits ≡ length old
  pub fits : (j : ℕ) (node : Node) → j < k → slice_get nodes j ≡ Some node → FitsNode (bit_at bits) node (bit_at bits j)
  pub inputs : (j number : ℕ) → slice_get nodes j ≡ Some (Input number) → bit_at bits j ≡ bit_at old j

-- one more node
pub filled_more : (nodes : List Node) (old bits : List Bool) (k : ℕ) (node : Node) (bit : Bool) → IsGraph nodes → length old ≡ length nodes → slice_get nodes k ≡ Some node → FitsNode (bit_at bits) node bit → ((number : ℕ) → node ≡ Input number → bit ≡ get_or bits k false) → IsFilledTo nodes old k bits → IsFilledTo nodes old (k + 1) (set bits k bit)
filled_more nodes old bits k node bit graph same_len at fits_k at_input filled =
    let room : k < length bits = (let lt = slice_get_within nodes k node at in omega (arith, lt, same_len, filled.len)) in
    let here : bit_at (set bits k bit) k ≡ bit = get_or-set_same bits k bit false room in
    let other : (j : ℕ) → (j ≡ k → ⊥) → bit_at (set bits k bit) j ≡ bit_at bits j = λ j ne. get_or-set_other bits k j bit false ne in
    let before : (j : ℕ) → j < k → bit_at bits j ≡ bit_at (set bits k bit) j = λ j lt. sym (other j (λ e. omega (arith, lt, e))) in
    record {
      len = length-set bits k bit ∙ filled.len;
      fits = λ j other_node lt at_j. elim (cases_eq j k) [
        | inl e ↦
            let same : node ≡ other_node = same_Some node other_node (sym at ∙ ap (slice_get nodes) (sym e) ∙ at_j) in
            let moved : FitsNode (bit_at (set bits k bit)) node bit = fits_agree (bit_at bits) (bit_at (set bits k bit)) k node bit (operands_below nodes k node graph at) before fits_k in
            subst (λ (n : Node). FitsNode (bit_at (set bits k bit)) n (bit_at (set bits k bit) j)) same (subst (FitsNode (bit_at (set bits k bit)) node) (sym (ap (bit_at (set bits k bit)) e ∙ here)) moved)
        | inr ne ↦
            let earlier : j < k = omega (arith, lt, ne) in
            let moved : FitsNode (bit_at (set bits k bit)) other_node (bit_at bits j) = fits_agree (bit_at bits) (bit_at (set bits k bit)) j other_node (bit_at bits j) (operands_below nodes j other_node graph at_j) (λ i below. before i (omega (arith, below, earlier))) (filled.fits j other_node earlier at_j) in
            subst (FitsNode (bit_at (set bits k bit)) other_node) (before j earlier) moved
      ];
      inputs = λ j number at_j. elim (cases_eq j k) [
        | inl e ↦
            let same : node ≡ Input number = same_Some node (Input number) (sym at ∙ ap (slice_get nodes) (sym e) ∙ at_j) in
            ap (bit_at (set bits k bit)) e ∙ here ∙ at_input number same ∙ ap (bit_at bits) (sym e) ∙ filled.inputs j number at_j
        | inr ne ↦ other j ne ∙ filled.inputs j number at_j
      ];
    }

-- all nodes
pub filled_fits : (nodes : List Node) (old bits : List Bool) (k : ℕ) → length nodes ≤ k → IsFilledTo nodes old k bits → IsValuation nodes (bit_at bits)
filled_fits nodes old bits k le filled =
    record { fits = λ j node at. filled.fits j node (let lt = slice_get_within nodes j node at in omega (arith, lt, le)) at }

pub filled_keeps : (nodes : List Node) (old bits : List Bool) (k : ℕ) → IsGraph nodes → IsFilledTo nodes old k bits → AgreeAt (inputs_of nodes) (bit_at bits) (bit_at old)
filled_keeps nodes old bits k graph filled = λ number c. filled.inputs number number (listed_input nodes number graph c)

-- two valuations with the same bits at the inputs have the same bits at all nodes
same_before : (nodes : List Node) (w u : ℕ → Bool) → IsGraph nodes → IsValuation nodes w → IsValuation nodes u → AgreeAt (inputs_of nodes) w u → (n k : ℕ) → k < n → k < length nodes → w k ≡ u k
same_before nodes w u graph val_w val_u agree zero k lt within = absurd (omega arith)
same_before nodes w u graph val_w val_u agree (suc n) k lt within =
    by (λ j below. same_before nodes w u graph val_w val_u agree n j (omega (arith, lt, below)) (omega (arith, within, below))) (get_or nodes k Zero) (slice_get-get_or nodes k Zero within)
  where
    by : ((j : ℕ) → j < k → w j ≡ u j) → (node : Node) → slice_get nodes k ≡ Some node → w k ≡ u k
    by before Zero at = val_w.fits k Zero at ∙ sym (val_u.fits k Zero at)
    by before (Input number) at =
        let is : number ≡ k = graph.inputs k number at in
        agree k (subst (Contains (inputs_of nodes)) is (input_listed nodes k number at))
    by before (And a b) at =
        let is = graph.operands k a b at in
        let first : w a.node ≡ u a.node = before a.node (omega (arith, is.second, is.before)) in
        let second : w b.node ≡ u b.node = before b.node is.before in
        val_w.fits k (And a b) at ∙ ap (λ x. x && value_of w b) (bit_agree w u a first) ∙ ap (λ x. value_of u a && x) (bit_agree w u b second) ∙ sym (val_u.fits k (And a b) at)

pub one_valuation : (nodes : List Node) (w u : ℕ → Bool) → IsGraph nodes → IsValuation nodes w → IsValuation nodes u → AgreeAt (inputs_of nodes) w u → (k : ℕ) → k < length nodes → w k ≡ u k
one_valuation nodes w u graph val_w val_u agree k within =
    same_before nodes w u graph val_w val_u agree (suc k) k (omega arith) within
