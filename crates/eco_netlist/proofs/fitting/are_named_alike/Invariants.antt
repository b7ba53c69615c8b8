use Rattle.std.proofs.Common.{◌≡◌, take}
use Rattle.eco_meaning.specs.Circuit.{names}
use Rattle.eco_netlist.specs.Netlists.{names_at}
use Rattle.eco_netlist.proofs.fitting.are_named_alike.Given as goal

abbrev pub invariant-loop-place : goal.invariant-loop-place
invariant-loop-place l = names_at (names l.f) (take l.place l.nets) ≡ names_at (names l.p) (take l.place l.others)
