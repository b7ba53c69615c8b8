-- The bits of the targets so far.
use Rattle.std.proofs.Common.{◌≡◌, map, take}
use Rattle.eco_meaning.specs.Circuit.{names}
use Rattle.eco_meaning.specs.Report.{targets_in}
use Rattle.eco_netlist.specs.Netlists.{bit_of}
use Rattle.eco_audit.proofs.filling.target_bits.Given as goal

abbrev pub invariant-loop-group : goal.invariant-loop-group
invariant-loop-group l = l.bits.items ≡ map (bit_of (names l.out) l.values) (targets_in (take l.group-index l.groups))
