use Rattle.std.proofs.Common.{◌≡◌, map, take}
use Rattle.eco_check.specs.Steps.{link_of}
use Rattle.eco_check.proofs.checker.links_of.Given as goal

abbrev pub invariant-loop-pair : goal.invariant-loop-pair
invariant-loop-pair l = l.made.items ≡ map link_of (take l.pair-index l.links)
