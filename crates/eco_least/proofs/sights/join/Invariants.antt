-- The values so far.
use Rattle.std.proofs.Common.{◌≡◌, map, take}
use Rattle.eco_least.specs.declared.sights.Sight.{Sight}
use Rattle.eco_least.proofs.sights.join.Given as goal

abbrev pub invariant-loop-k : goal.invariant-loop-k
invariant-loop-k l =
    (map (λ (sight : Sight). sight.paid) l.sights.items ≡ take l.k l.paid) × (map (λ (sight : Sight). sight.turns) l.sights.items ≡ take l.k l.turns)
