-- The nets so far.
use Rattle.std.proofs.Common.{◌≡◌, ◌++◌, take}
use Rattle.eco_meaning.specs.Circuit.{names}
use Rattle.eco_netlist.specs.Netlists.{names_at}
use Rattle.eco_cutting.proofs.cutting.add_inputs.Given as goal

abbrev pub invariant-loop-net : goal.invariant-loop-net
invariant-loop-net l = l.draft ≡ record l.fn.draft { inputs = l.fn.draft.inputs ++ names_at (names l.f) (take l.net-index l.nets) }
