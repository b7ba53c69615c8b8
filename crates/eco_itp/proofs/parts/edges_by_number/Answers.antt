-- One more edge, and at the end all of them.
use Rattle.std.proofs.Common.{nat_eq, false}
use Rattle.std.specs.HashMap.{get}
use Rattle.eco_itp.proofs.Looking.{edges_more, edges_all}
use Rattle.eco_itp.proofs.parts.edges_by_number.Goals as goal

pub loop-var-preserved : goal.loop-var-preserved
loop-var-preserved c =
    edges_more (get nat_eq c.loop-var.edges) (get nat_eq c.insert.new.self) c.args.shared.now c.loop-var.var-index (record { 0 = 0 }, record { node = 0; complemented = false }) c.requires c.loop-var-test.true (c.in_ok-insert.ensures.updates).0 c.loop-var.invariant

pub returns : goal.returns
returns c = edges_all (get nat_eq c.loop-var.edges) c.args.shared.now c.loop-var.var-index c.loop-var-test.false c.loop-var.invariant
