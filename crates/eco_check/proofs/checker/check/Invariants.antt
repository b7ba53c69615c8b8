use Rattle.std.proofs.Common.{take}
use Rattle.eco_check.specs.Steps.{TakesSteps}
use Rattle.eco_check.proofs.checker.check.Given as goal

abbrev pub invariant-loop-place : goal.invariant-loop-place
invariant-loop-place l = TakesSteps l.cnf.clauses (take l.place l.steps) l.trace
