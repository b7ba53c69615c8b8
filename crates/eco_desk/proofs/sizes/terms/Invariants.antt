use Rattle.std.proofs.Common.{◌≡◌, length, take}
use Rattle.std.specs.List.{sum_by}
use Rattle.eco_desk.specs.Sizes.{capped}
use Rattle.eco_desk.proofs.sizes.terms.Given as goal

abbrev pub invariant-loop-gate : goal.invariant-loop-gate
invariant-loop-gate l = l.total ≡ capped (sum_by (λ g. length g.ins) (take l.gate-index l.gates))
