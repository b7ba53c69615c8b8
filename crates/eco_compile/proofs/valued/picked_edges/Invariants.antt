-- The nets so far have their edges.
use Rattle.std.proofs.Common.{◌≡◌, get_or, map, take}
use Rattle.eco_gates.specs.declared.gate.NetId.{NetId}
use Rattle.eco_aig.specs.Edges.{plain}
use Rattle.eco_compile.proofs.valued.picked_edges.Given as goal

abbrev pub invariant-loop-net : goal.invariant-loop-net
invariant-loop-net l = l.picked.items ≡ map (λ (net : NetId). get_or l.edges net.0 (plain 0)) (take l.net-index l.nets)
