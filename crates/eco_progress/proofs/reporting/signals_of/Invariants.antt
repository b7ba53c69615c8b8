-- The signals so far.
use Rattle.std.proofs.Common.{◌≡◌, map, take}
use Rattle.eco_progress.specs.Reported.{reported_as}
use Rattle.eco_progress.proofs.reporting.signals_of.Given as goal

abbrev pub invariant-loop-based : goal.invariant-loop-based
invariant-loop-based l = l.reported.items ≡ map (reported_as l.problem) (take l.based-index l.chosen)
