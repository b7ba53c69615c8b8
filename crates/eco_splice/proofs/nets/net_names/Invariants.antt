use Rattle.std.proofs.Common.{◌≡◌}
use Rattle.eco_meaning.specs.Circuit.{names}
use Rattle.eco_netlist.specs.Netlists.{names_at}
use Rattle.eco_splice.specs.GraphPatch.{nets_of}
use Rattle.eco_splice.proofs.nets.net_names.Given as goal

abbrev pub invariant-loop-before : goal.invariant-loop-before
invariant-loop-before l = l.list.items ≡ nets_of l.frame.prefix.now (names_at (names l.frame.f.now) l.base) l.before
