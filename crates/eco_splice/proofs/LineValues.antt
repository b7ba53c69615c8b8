-- The function of the patch of lines.
use Rattle.std.proofs.Common.{◌≡◌, ◌≢◌, ℕ, zero, suc, ◌+◌, ◌-◌, ◌<◌, inl, inr, Bool, true, false, not, eqb, cond, List, Some, length, map, refl, sym, ◌∙◌, ap, arith}
use Rattle.std.specs.List.{Contains, slice_get}
use Rattle.std.specs.Option.{option_map}
use Rattle.std.proofs.lemmas.Bool.{false≢true, eqb-true, eq-eqb, cases_lt}
use Rattle.std.proofs.lemmas.Option.{same_Some, slice_get_within, slice_get-map}
use Rattle.std.proofs.lemmas.List.{length-map}
use Rattle.std.proofs.lemmas.List.Elements.{All-contains}
use Rattle.eco_lists.proofs.Members.{map-map}
use Rattle.eco_lists.proofs.Places.{item_at, map_agree, Contains_at, same_by_places, slice_get-back, slice_get-front}
use Rattle.eco_meaning.specs.declared.name.Operand.TheVariants.{Zero, One, Named}
use Rattle.eco_meaning.specs.Gates.{apply}
use Rattle.eco_meaning.specs.Circuit as circuit
use Rattle.eco_meaning.specs.Circuit.{Values, IsConsistent}
use Rattle.eco_aig.specs.declared.edge.Edge.{Edge}
use Rattle.eco_aig.specs.declared.node.Node.{Node}
use Rattle.eco_aig.specs.Edges.{plain, value_of}
use Rattle.eco_aig.specs.Graph.{IsValuation, inputs_of}
use Rattle.eco_aig.proofs.Conjunctions.{constant_bit}
use Rattle.eco_splice.specs.GraphPatch.{net_of}
use Rattle.eco_splice.specs.declared.line.Line.{Line}
use Rattle.eco_splice.specs.LineGates.{edges_in, nets_in, line_term, line_gate, line_circuit, StandsBefore}
use Rattle.eco_splice.proofs.LineShape.{AreLineParts, outs_of, length-edges, edge_at, net_behind, line_stands, operand_net, driver_of}
use Rattle.eco_splice.proofs.LineFits.{input_edge}

-- what is known of the values: the nodes', the nets', and that they agree at the inputs
pub record AreValued (prefix : List ℕ) (nodes : List Node) (lines : List Line) (targets base : List (List ℕ)) (roots : List Edge) (u : ℕ → Bool) (w : Values) : Type 0 where
  pub parts : AreLineParts prefix nodes lines targets base roots
  pub valuation : IsValuation nodes u
  pub consistent : IsConsistent (line_circuit prefix (edges_in nodes lines) lines targets base) w
  pub inputs : map w base ≡ map u (inputs_of nodes)

-- what a gate reads for an operand has the operand's value
constant_value : (w : Values) (sign bit : Bool) → bit ≡ false → circuit.value_of w (cond sign One Zero) ≡ cond sign (not bit) bit
constant_value w true bit none = sym (ap not none)
constant_value w false bit none = sym none

term_value : (edges : List Edge) (nets : List (List ℕ)) (u : ℕ → Bool) (w : Values) (e : Edge) → u 0 ≡ false → (e.node ≢ 0 → w (net_of edges nets e) ≡ value_of u e) → circuit.value_of w (line_term edges nets e) ≡ value_of u e
term_value edges nets u w e none known =
    elim (eqb e.node 0) as (λ b. eqb e.node 0 ≡ b → circuit.value_of w (cond b (cond e.complemented One Zero) (Named (net_of edges nets e))) ≡ value_of u e) [
      | true ↦ λ is. constant_value w e.complemented (u e.node) (ap u (eqb-true e.node 0 is) ∙ none)
      | false ↦ λ is. known (λ zero. false≢true (sym is ∙ eq-eqb e.node 0 zero))
    ] refl

-- the net of an input has its bit
input_value : (prefix : List ℕ) (nodes : List Node) (lines : List Line) (targets base : List (List ℕ)) (roots : List Edge) (u : ℕ → Bool) (w : Values) → AreValued prefix nodes lines targets base roots u w → (i : ℕ) (e : Edge) (name : List ℕ) → i < length (inputs_of nodes) → slice_get (edges_in nodes lines) i ≡ Some e → slice_get (nets_in prefix targets base lines) i ≡ Some name → w name ≡ value_of u e
input_value prefix nodes lines targets base roots u w are i e name lt edge net =
    let count = are.parts.inputs in
    let node = item_at (inputs_of nodes) i lt in
    let one : plain node.0 ≡ e = same_Some (plain node.0) e (sym (input_edge nodes lines i node.0 node.1) ∙ edge) in
    let own : slice_get base i ≡ Some name = sym (slice_get-front base (outs_of prefix targets lines) i (omega (arith, lt, count))) ∙ net in
    let left : slice_get (map w base) i ≡ Some (w name) = slice_get-map w base i ∙ ap (option_map w) own in
    let right : slice_get (map u (inputs_of nodes)) i ≡ Some (u node.0) = slice_get-map u (inputs_of nodes) i ∙ ap (option_map u) node.1 in
    same_Some (w name) (u node.0) (sym left ∙ ap (λ l. slice_get l i) are.inputs ∙ right) ∙ ap (value_of u) one

-- the net of a line has its edge's value, where those before it have theirs
line_value : (prefix : List ℕ) (nodes : List Node) (lines : List Line) (targets base : List (List ℕ)) (roots : List Edge) (u : ℕ → Bool) (w : Values) → AreValued prefix nodes lines targets base roots u w → (k : ℕ) (line : Line) (out : List ℕ) → slice_get lines k ≡ Some line → slice_get (outs_of prefix targets lines) k ≡ Some out → ((i : ℕ) (e : Edge) (name : List ℕ) → i < length (inputs_of nodes) + k → slice_get (edges_in nodes lines) i ≡ Some e → slice_get (nets_in prefix targets base lines) i ≡ Some name → w name ≡ value_of u e) → w out ≡ value_of u line.edge
line_value prefix nodes lines targets base roots u w are k line out at at_out known =
    let edges = edges_in nodes lines in
    let nets = nets_in prefix targets base lines in
    let ops = line.operands.items in
    let within = slice_get_within lines k line at in
    let count = length-edges nodes lines in
    let none = constant_bit nodes u are.parts.graph are.valuation in
    let operand : (x : Edge) → Contains ops x → circuit.value_of w (line_term edges nets x) ≡ value_of u x = λ x c.
    term_value edges nets u w x none (λ some.
    elim (All-contains (StandsBefore edges (length (inputs_of nodes) + k)) ops x (are.parts.ready.earlier k line at) c) [
      | inl constant ↦ absurd (some constant)
      | inr low ↦
          let net = operand_net prefix nodes lines targets base (length (inputs_of nodes) + k) x are.parts.inputs (omega (arith, within, count)) low in
          known net.place x (net_of edges nets x) net.before net.edge net.net
    ]) in
    are.consistent (line_gate edges nets line out) (line_stands prefix nodes lines targets base k line out at at_out)
    ∙ ap (apply line.kind)
    (map-map (line_term edges nets) (circuit.value_of w) ops
    ∙ map_agree (λ (x : Edge). circuit.value_of w (line_term edges nets x)) (value_of u) ops (λ j x at_x. operand x (Contains_at ops j x at_x)))
    ∙ (are.parts.lines_fit k line at).value u are.valuation

values_below : (prefix : List ℕ) (nodes : List Node) (lines : List Line) (targets base : List (List ℕ)) (roots : List Edge) (u : ℕ → Bool) (w : Values) → AreValued prefix nodes lines targets base roots u w → (n i : ℕ) (e : Edge) (name : List ℕ) → i < n → slice_get (edges_in nodes lines) i ≡ Some e → slice_get (nets_in prefix targets base lines) i ≡ Some name → w name ≡ value_of u e
values_below prefix nodes lines targets base roots u w are zero i e name lt edge net = absurd (omega arith)
values_below prefix nodes lines targets base roots u w are (suc n) i e name lt edge net =
    let b = length (inputs_of nodes) in
    elim (cases_lt i b) [
      | inl low ↦ input_value prefix nodes lines targets base roots u w are i e name low edge net
      | inr high ↦
          let count = are.parts.inputs in
          let all = length-edges nodes lines in
          let within = slice_get_within (edges_in nodes lines) i e edge in
          let k = i - b in
          let place : b + k ≡ i = omega (arith, high) in
          let line = item_at lines k (omega (arith, all, within, high)) in
          let one : line.0.edge ≡ e = same_Some line.0.edge e (sym (edge_at nodes lines k line.0 line.1) ∙ ap (slice_get (edges_in nodes lines)) place ∙ edge) in
          let out : slice_get (outs_of prefix targets lines) k ≡ Some name = sym (slice_get-back base (outs_of prefix targets lines) i k (omega (arith, place, count))) ∙ net in
          line_value prefix nodes lines targets base roots u w are k line.0 name line.1 out (λ j x other low at_x at_other.
          values_below prefix nodes lines targets base roots u w are n j x other (omega (arith, low, place, lt)) at_x at_other)
          ∙ ap (value_of u) one
    ]

-- the targets have the values of the roots
pub line_values : (prefix : List ℕ) (nodes : List Node) (lines : List Line) (targets base : List (List ℕ)) (roots : List Edge) (u : ℕ → Bool) (w : Values) → AreValued prefix nodes lines targets base roots u w → map w targets ≡ map (value_of u) roots
line_values prefix nodes lines targets base roots u w are =
    let b = length (inputs_of nodes) in
    let count = are.parts.count in
    let left = length-map targets w in
    let right = length-map roots (value_of u) in
    same_by_places (map w targets) (map (value_of u) roots) (omega (arith, count, left, right)) (λ k lt.
    let target = item_at targets k (omega (arith, lt, left)) in
    let driver = driver_of prefix nodes lines targets base roots are.parts k target.0 target.1 in
    let net = net_behind prefix targets base lines b driver.place target.0 are.parts.inputs driver.out in
    let edge = edge_at nodes lines driver.place driver.line driver.at in
    let bit = values_below prefix nodes lines targets base roots u w are (suc (b + driver.place)) (b + driver.place) driver.line.edge target.0 (omega arith) edge net in
    slice_get-map w targets k ∙ ap (option_map w) target.1 ∙ ap Some bit ∙ sym (slice_get-map (value_of u) roots k ∙ ap (option_map (value_of u)) driver.root))
