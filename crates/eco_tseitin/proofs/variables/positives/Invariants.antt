use Rattle.std.proofs.Common.{◌≡◌, map, take}
use Rattle.eco_tseitin.specs.Joined.{positive}
use Rattle.eco_tseitin.proofs.variables.positives.Given as goal

abbrev pub invariant-loop-var : goal.invariant-loop-var
invariant-loop-var l = l.lits.items ≡ map positive (take l.var-index l.vars)
