-- One more gate.
use Rattle.std.proofs.Common.{map, ap, arith}
use Rattle.eco_trace.specs.Clauses.{Clauses}
use Rattle.eco_clauses.specs.Numbers.{term_literal, out_literal}
use Rattle.eco_clauses.proofs.GateSteps.{gates_step}
use Rattle.eco_clauses.proofs.Counts.{takes_kind}
use Rattle.eco_clauses.proofs.gates.add_gates.Goals as goal

pub loop-gate-preserved : goal.loop-gate-preserved
loop-gate-preserved c =
    let lits = c.args.lits.now in
    let g = c.gate-item.result in
    let old = c.loop-gate.cnf in
    let takes = (takes_kind old g.kind (out_literal lits g) (map (term_literal lits) g.ins)).more in
    let same = ap (λ (d : Clauses). d.vars) c.in_ok-add_gate.ensures in
    let before = c.loop-gate.invariant.more in
    record {
      left = λ list literal named.
          gates_step list literal lits c.args.gates.now c.loop-gate.gate-index g old c.add_gate.new.cnf _ named c.loop-gate-test.true c.gate-item.is c.requires.within c.in_ok-add_gate.ensures (c.loop-gate.invariant.left list literal named);
      more = omega (arith, takes, same, before);
    }
