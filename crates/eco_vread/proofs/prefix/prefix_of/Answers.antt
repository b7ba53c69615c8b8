use Rattle.std.proofs.Common.{sym, ◌∙◌}
use Rattle.eco_vread.proofs.Assigned.{no_assignments}
use Rattle.eco_vread.proofs.prefix.prefix_of.Goals as goal

pub returns-else-has_assignments-clause-gates : goal.returns-else-has_assignments-clause-gates
returns-else-has_assignments-clause-gates c =
    no_assignments c.new.result.items c.args.tree.now c.as_slice.result.now c.as_slice.ensures.value (sym c.has_assignments.ensures ∙ c.if-has_assignments.false)
