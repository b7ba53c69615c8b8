-- None of the outputs so far has the name.
use Rattle.std.proofs.Common.{◌≡◌, false, take}
use Rattle.eco_meaning.specs.Names.{has}
use Rattle.eco_meaning.specs.Circuit.{names}
use Rattle.eco_netlist.specs.Netlists.{names_at}
use Rattle.eco_cutting.proofs.cutting.is_output.Given as goal

abbrev pub invariant-loop-net : goal.invariant-loop-net
invariant-loop-net l = has (names_at (names l.f) (take l.net-index l.outputs)) l.name ≡ false
