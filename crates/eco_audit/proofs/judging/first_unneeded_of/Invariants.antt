-- The signals so far are needed.
use Rattle.std.proofs.Common.{take}
use Rattle.std.specs.List.{All}
use Rattle.eco_audit.specs.Judging.{AtGroupOf, needs}
use Rattle.eco_audit.proofs.judging.first_unneeded_of.Given as goal

abbrev pub invariant-loop-reported : goal.invariant-loop-reported
invariant-loop-reported g l = AtGroupOf l.solution l.number (λ before group. All (needs l.solution before group) (take l.reported-index l.base))
