-- The first names are those of the nets.
use Rattle.std.proofs.Common.{map}
use Rattle.eco_inputs.specs.Nets.{AreFirstNamed}
use Rattle.eco_inputs.proofs.nets.named_nets.Given as goal

abbrev pub invariant-loop-place : goal.invariant-loop-place
invariant-loop-place l = AreFirstNamed l.f (map (λ name. name.now) l.named) l.place l.nets.items
