-- The variables so far may stand in clauses.
use Rattle.std.proofs.Common.{◌≡◌, take}
use Rattle.std.specs.List.{All}
use Rattle.eco_accept.specs.Posing.{IsVarUpTo}
use Rattle.eco_accept.proofs.part.reach_all.Given as goal

abbrev pub invariant-loop-var : goal.invariant-loop-var
invariant-loop-var l = (l.cnf.clauses ≡ l.fn.cnf.clauses) × All (IsVarUpTo l.cnf.vars) (take l.var-index l.vars)
