use Rattle.std.proofs.Common.{arith}
use Rattle.eco_netlist.proofs.NetNames.{added_more}
use Rattle.eco_netlist.proofs.names.add_names.Goals as goal

pub loop-name-preserved : goal.loop-name-preserved
loop-name-preserved c =
    added_more c.args.names.now.keys c.args.added.now c.loop-name.names.keys c.insert.new.self.keys c.loop-name.name-index c.in_ok-copy.field-0
    c.requires (omega arith) (cc (c.name-item.is, c.in_ok-copy.ensures.same)) c.loop-name.invariant c.in_ok-insert.ensures.keys
