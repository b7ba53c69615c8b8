use Rattle.std.proofs.Common.{◌≡◌, map, take}
use Rattle.eco_aiger.proofs.naming.wire_prefix.Given as goal

abbrev pub invariant-loop-name : goal.invariant-loop-name
invariant-loop-name l = map (λ name. name.now) l.list.items ≡ take l.name-index l.ports
