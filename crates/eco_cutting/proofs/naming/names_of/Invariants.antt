use Rattle.std.proofs.Common.{◌≡◌, map, take}
use Rattle.eco_meaning.specs.Circuit.{names}
use Rattle.eco_cutting.proofs.naming.names_of.Given as goal

abbrev pub invariant-loop-net : goal.invariant-loop-net
invariant-loop-net l = map (λ name. name.now) l.list.items ≡ take l.net (names l.f)
