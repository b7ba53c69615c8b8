use Rattle.std.proofs.Common.{◌≡◌, take, nat_lt}
use Rattle.std.specs.Prelude.{filter}
use Rattle.eco_netlist.specs.Tallies.{tally_at, count_in}
use Rattle.eco_netlist.proofs.placing.counted_in.Given as goal

abbrev pub invariant-loop-net : goal.invariant-loop-net
invariant-loop-net l =
    l.counted.items ≡ filter (λ net. nat_lt 0 (count_in l.place (tally_at l.tallies net.0))) (take l.net-index l.list)
