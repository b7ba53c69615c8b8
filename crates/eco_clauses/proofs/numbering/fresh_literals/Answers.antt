-- One more new literal.
use Rattle.std.proofs.Common.{◌∙◌, ap, arith}
use Rattle.eco_gates.specs.declared.gate.NetId.{NetId}
use Rattle.eco_trace.specs.Clauses.{Clauses}
use Rattle.eco_clauses.proofs.Naming.{new_step}
use Rattle.eco_clauses.proofs.numbering.fresh_literals.Goals as goal

pub loop-net-preserved : goal.loop-net-preserved
loop-net-preserved c =
    let none : NetId = record { 0 = 0 } in
    let old = c.loop-net.cnf in
    let vars = ap (λ (d : Clauses). d.vars) c.in_ok-fresh.ensures.more in
    let before = c.loop-net.invariant.more in
    record {
      left = new_step c.args.nets.now c.loop-net._net-index none old.vars c.fresh.new.cnf.vars c.loop-net.lits.items c.push.new.self.items _ c.in_ok-fresh.field-0 c.loop-net-test.true c.loop-net.invariant.left c.in_ok-fresh.ensures.literal vars c.in_ok-push.ensures.items;
      more = omega (arith, vars, before);
      same = ap (λ (d : Clauses). d.clauses) c.in_ok-fresh.ensures.more ∙ c.loop-net.invariant.same;
    }
