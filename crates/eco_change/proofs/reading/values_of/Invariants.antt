-- The bits of the nets so far.
use Rattle.std.proofs.Common.{◌≡◌, map, take}
use Rattle.eco_meaning.specs.Circuit.{names}
use Rattle.eco_netlist.specs.Netlists.{bit_of, names_at}
use Rattle.eco_change.proofs.reading.values_of.Given as goal

abbrev pub invariant-loop-net : goal.invariant-loop-net
invariant-loop-net l = l.bits.items ≡ map (bit_of (names l.other) l.values) (names_at (names l.netlist) (take l.net-index l.nets))
