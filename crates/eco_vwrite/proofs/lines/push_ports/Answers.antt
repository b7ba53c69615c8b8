use Rattle.std.proofs.Common.{◌≡◌, ℕ, List, ◌+◌, ◌<◌, ◌++◌, length, take, drop, cond, ap, ◌∙◌, sym, arith}
use Rattle.std.specs.List.{flat_map}
use Rattle.std.proofs.Math.Seq.{take-length}
use Rattle.eco_gates.specs.declared.gate.NetId.{NetId}
use Rattle.eco_meaning.specs.Circuit.{names}
use Rattle.eco_netlist.specs.Netlists.{name_at, names_at}
use Rattle.eco_vwrite.specs.Written.{port_line}
use Rattle.eco_vwrite.proofs.Turns.{port_turn, port_more, ports_left, ports_by_name}
use Rattle.eco_vwrite.proofs.lines.push_ports.Goals as goal
use Rattle.eco_vwrite.proofs.lines.push_ports.Goals.{then-is_input, else-is_input}

pub loop-port-preserved : goal.loop-port-preserved
loop-port-preserved c =
    let n = c.args.netlist.now in
    let ports = c.ports-ports.result.now in
    let inputs = c.inputs-inputs.result.now in
    let index = c.loop-port.port-index in
    let next = c.loop-port.next in
    let lt : index < length ports = c.loop-port-test.true in
    let turn = port_turn n c.nets-nets.ensures.checked inputs ports index next (record { 0 = 0 }) c.inputs-inputs.ensures.within c.ports-ports.ensures.within lt c.loop-port.invariant.turn c.is_at-is_input.result c.is_at-is_input.ensures in
    let after : c.if-is_input.next ≡ cond c.is_at-is_input.result (next + 1) next =
    elim c.if-is_input.branch [
      | then-is_input w ↦ w.next-is ∙ ap (λ b. cond b (next + 1) next) (sym w.if-is_input.true)
      | else-is_input w ↦ w.next-is ∙ ap (λ b. cond b (next + 1) next) (sym w.if-is_input.false)
    ] in
    record {
      text = port_more n (names n) ports index (record { 0 = 0 }) lt c.args.text.now.items c.loop-port.text.items c.push_declaration.new.text.items c.direction.result.now c.is_at-is_input.result
          c.loop-port.invariant.text c.in_ok-push_declaration.ensures.ok c.direction.ensures turn.0;
      turn = ap (λ k. names_at (names n) (drop k inputs)) after ∙ turn.1;
      few = elim c.if-is_input.branch [ then-is_input w ↦ omega (arith, c.loop-port.invariant.few) | else-is_input w ↦ omega (arith, c.loop-port.invariant.few) ];
      named = c.loop-port.invariant.named ∙ ports_left (names n) ports index (record { 0 = 0 }) lt c.in_ok-push_declaration.ensures.named;
    }

pub returns-clause-ok : goal.returns-clause-ok
returns-clause-ok c =
    let n = c.args.netlist.now in
    let ports = c.ports-ports.result.now in
    let line : NetId → List ℕ = λ net. port_line n (name_at (names n) net.0) in
    let end : c.loop-port.port-index ≡ length ports = omega (arith, c.loop-port-test.false, c.loop-port.auto.port-index-end) in
    c.loop-port.invariant.text
    ∙ ap (λ k. c.args.text.now.items ++ flat_map line (take k ports)) end
    ∙ ap (λ nets. c.args.text.now.items ++ flat_map line nets) (take-length ports)
    ∙ ap (λ more. c.args.text.now.items ++ more) (ports_by_name n (names n) ports ∙ ap (flat_map (port_line n)) c.ports-ports.ensures.named)
