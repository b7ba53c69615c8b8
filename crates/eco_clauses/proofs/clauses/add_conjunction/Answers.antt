-- The last clause is over the same variables.
use Rattle.std.proofs.Common.{◌∙◌}
use Rattle.eco_clauses.proofs.Steps.{complements_within}
use Rattle.eco_clauses.proofs.clauses.add_conjunction.Goals as goal

pub add_clause-requires-2 : goal.add_clause-requires-2
add_clause-requires-2 c =
    complements_within c.args.cnf.now.vars c.loop-lit.cnf.vars c.args.out c.args.ins.now c.as_slice.result.now c.loop-lit.invariant.vars (c.as_slice.ensures.value ∙ c.in_ok-all.ensures) c.requires.out c.requires.ins
