use Rattle.std.proofs.Common.{arith}
use Rattle.eco_netlist.proofs.NetNames.{chosen_more}
use Rattle.eco_netlist.proofs.names.chosen.Goals as goal

pub loop-net-preserved : goal.loop-net-preserved
loop-net-preserved c =
    chosen_more c.args.names.now.keys c.loop-net.chosen.keys c.insert.new.self.keys c.args.nets.now c.loop-net.net-index (record { 0 = 0 }) c.in_ok-copy.field-0
    c.requires.within c.requires.distinct (omega arith) (cc (c.index-as_slice-net.is, c.in_ok-copy.ensures.same, c.as_slice.ensures.keys)) c.loop-net.invariant c.in_ok-insert.ensures.keys
