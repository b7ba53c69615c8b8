-- One more gate, and at the end all of them.
use Rattle.std.proofs.Common.{◌≡◌, ◌<◌, ◌+◌, ℕ, Some, List, length, get_or, set, sym, ◌∙◌, ap, subst, arith}
use Rattle.std.specs.List.{slice_get}
use Rattle.std.proofs.lemmas.Option.{slice_get-get_or}
use Rattle.eco_gates.specs.declared.gate.NetId.{NetId}
use Rattle.eco_gates.specs.GateValue.{GateValue}
use Rattle.eco_lists.proofs.Places.{All_at}
use Rattle.eco_gates.specs.Evaluation.{gate_value}
use Rattle.eco_aig.specs.declared.edge.Edge.{Edge}
use Rattle.eco_aig.specs.Graph.{HasValue}
use Rattle.eco_aig.specs.Edges.{bits_of}
use Rattle.eco_compile.proofs.Compiling.{IsCompiledTo, compiled_more, compiled_consistent, compiled_grows, compiled_stops}
use Rattle.eco_compile.proofs.gates.compile_gates.Goals as goal

pub returns-in_err-edge-clause-grows : goal.returns-in_err-edge-clause-grows
returns-in_err-edge-clause-grows c =
    let k = c.loop-number.number-index in
    let gates = c.args.gates.now in
    let order = c.args.order.now in
    let i = get_or order k 0 in
    let g = c.index-gates-number.result in
    let at_k : slice_get order k ≡ Some i = slice_get-get_or order k 0 (omega arith) in
    let within : i < length gates = All_at (λ (i : ℕ). i < length gates) order k i c.requires.order.numbers at_k in
    let gate_i : slice_get gates i ≡ Some g = slice_get-get_or gates i g within ∙ ap Some (sym c.index-gates-number.is) in
    compiled_stops gates order c.args.aig.now c.loop-number.aig c.gate_edge.new.aig c.args.edges.items c.loop-number.edges.items k i g c.requires.order (omega arith) at_k gate_i c.loop-number.invariant c.gate_edge.ensures.grows

pub loop-number-preserved : goal.loop-number-preserved
loop-number-preserved c =
    let k = c.loop-number.number-index in
    let gates = c.args.gates.now in
    let order = c.args.order.now in
    let old = c.args.edges.items in
    let edges = c.loop-number.edges.items in
    let i = get_or order k 0 in
    let g = c.index-gates-number.result in
    let e = c.in_ok-edge.edge in
    let at_k : slice_get order k ≡ Some i = slice_get-get_or order k 0 (omega arith) in
    let within : i < length gates = All_at (λ (i : ℕ). i < length gates) order k i c.requires.order.numbers at_k in
    let gate_i : slice_get gates i ≡ Some g = slice_get-get_or gates i g within ∙ ap Some (sym c.index-gates-number.is) in
    let has : HasValue c.gate_edge.new.aig e (λ w. gate_value (bits_of w edges) g) = subst (λ (list : List Edge). HasValue c.gate_edge.new.aig e (λ w. gate_value (bits_of w list) g)) c.as_slice.ensures.value c.in_ok-edge.ensures.value in
    let more = compiled_more gates order c.args.aig.now c.loop-number.aig c.gate_edge.new.aig old edges k i g e c.requires.within c.requires.once c.requires.order (omega arith) at_k gate_i c.loop-number.invariant c.gate_edge.ensures.grows has in
    subst (λ (out : NetId). IsCompiledTo gates order c.args.aig.now c.gate_edge.new.aig old (set edges out.0 e) (k + 1)) (sym (ap (λ (g : GateValue). g.out) c.gate.view_is)) more

pub returns-clause-consistent : goal.returns-clause-consistent
returns-clause-consistent c =
    compiled_consistent c.args.gates.now c.args.order.now c.args.aig.now c.loop-number.aig c.args.edges.items c.loop-number.edges.items c.loop-number.number-index c.requires.order c.loop-number-test.false c.loop-number.invariant

pub returns-clause-grows : goal.returns-clause-grows
returns-clause-grows c =
    compiled_grows c.args.gates.now c.args.order.now c.args.aig.now c.loop-number.aig c.args.edges.items c.loop-number.edges.items c.loop-number.number-index c.requires.order c.loop-number-test.false c.loop-number.invariant
