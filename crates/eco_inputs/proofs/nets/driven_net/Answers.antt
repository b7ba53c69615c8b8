-- The gate drives a net of this name, or it doesn't, and at the end none does.
use Rattle.std.proofs.Common.{◌≤◌, length, sym, ◌∙◌, ap, arith}
use Rattle.eco_gates.specs.GateValue.{GateValue}
use Rattle.eco_inputs.proofs.NetLaws.{drives, drives_not, none_drives}
use Rattle.eco_inputs.proofs.nets.driven_net.Goals as goal

pub returns-then-eq : goal.returns-then-eq
returns-then-eq c =
    drives c.args.f.now c.gates-gates.result.now c.gates-gates.ensures.named c.gates-gates.ensures.within c.loop-gate.gate-index c.gate-item.result c.loop-gate-test.true c.gate-item.is
    c.gate.inside.out (ap (λ (g : GateValue). g.out) c.gate.view_is) c.name_of.result.now c.bytes.result.now c.args.name.now c.name_of.ensures c.bytes.ensures.value
    (sym c.eq.ensures ∙ c.if-eq.true)

pub loop-gate-preserved : goal.loop-gate-preserved
loop-gate-preserved c =
    drives_not c.args.f.now c.gates-gates.result.now c.gates-gates.ensures.named c.gates-gates.ensures.within c.loop-gate.gate-index c.gate-item.result c.loop-gate-test.true c.gate-item.is
    c.gate.inside.out (ap (λ (g : GateValue). g.out) c.gate.view_is) c.name_of.result.now c.bytes.result.now c.args.name.now c.name_of.ensures c.bytes.ensures.value
    (sym c.eq.ensures ∙ c.if-eq.false) c.loop-gate.invariant

pub returns : goal.returns
returns c =
    let all : length c.gates-gates.result.now ≤ c.loop-gate.gate-index = omega arith in
    none_drives c.args.f.now c.gates-gates.result.now c.loop-gate.gate-index c.args.name.now c.gates-gates.ensures.named all c.loop-gate.invariant
