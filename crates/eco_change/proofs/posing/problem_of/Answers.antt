-- The netlist that is cut is the implementation of a problem, and nothing but want of memory refuses it.
use Rattle.std.proofs.Common.{Option, sym, ◌∙◌, subst}
use Rattle.eco_meaning.specs.Circuit.{Circuit}
use Rattle.eco_query.specs.Problem.{IsClosed}
use Rattle.eco_query.specs.Pairing.{Refuses}
use Rattle.eco_change.proofs.CutProblems.{few_nets, only_memory}
use Rattle.eco_change.proofs.posing.problem_of.Goals as goal

pub pair-requires-clause-closed : goal.pair-requires-clause-closed
pair-requires-clause-closed c = subst IsClosed (sym c.in-Ok.ensures.specification) c.old.ensures.change.asked.closed

pub pair-requires-clause-care_closed : goal.pair-requires-clause-care_closed
pair-requires-clause-care_closed c = λ own some. (c.old.ensures.change.asked.care own (sym c.in-Ok.ensures.care ∙ some)).closed

pub pair-requires-clause-few_nets : goal.pair-requires-clause-few_nets
pair-requires-clause-few_nets c =
    few_nets c.args.change.now.old c.args.change.now.goal c.requires.0 c.args.netlist c.old.ensures.change c.requires.1 c.requires.2 c.requires.3

pub want_of_memory-requires : goal.want_of_memory-requires
want_of_memory-requires c =
    let asked = c.args.change.now.goal in
    let m = c.args.netlist in
    only_memory c.args.change.now.old asked c.requires.0 m c.old.ensures.change c.requires.1 c.requires.2 c.requires.3 c.in-Err-pair.error
    (subst (λ (spec : Circuit). Refuses m spec asked.care c.in-Err-pair.error) c.in-Ok.ensures.specification
    (subst (λ (care : Option Circuit). Refuses m c.in-Ok.specification care c.in-Err-pair.error) c.in-Ok.ensures.care c.in-Err-pair.ensures))
