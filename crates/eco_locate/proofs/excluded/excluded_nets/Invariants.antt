use Rattle.std.proofs.Common.{◌≡◌, take}
use Rattle.eco_locate.specs.Judged.{excluded_nets}
use Rattle.eco_locate.proofs.excluded.excluded_nets.Given as goal

abbrev pub invariant-loop-one : goal.invariant-loop-one
invariant-loop-one l = l.nets.items ≡ excluded_nets (take l.one-index l.excluding)
