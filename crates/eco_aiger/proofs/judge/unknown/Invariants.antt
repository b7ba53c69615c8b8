use Rattle.std.proofs.Common.{◌≡◌, take}
use Rattle.eco_aiger.specs.Judging.{least_unknown}
use Rattle.eco_aiger.proofs.judge.unknown.Given as goal

abbrev pub invariant-loop-variable : goal.invariant-loop-variable
invariant-loop-variable l = l.least ≡ least_unknown l.known.keys (take l.variable-index l.used)
