use Rattle.std.proofs.Common.{List, sym, subst}
use Rattle.std.proofs.lemmas.Bool.{MatchBool-at_true, MatchBool-at_false}
use Rattle.eco_trace.specs.declared.clause.Lit.{Lit}
use Rattle.eco_trace.specs.Merging.{HasTaken}
use Rattle.eco_trace.proofs.MergeLaws.{taken_start, taken_up_to, taken_step, taken_clash, taken_end}
use Rattle.eco_trace.proofs.merge.once_each.Goals as goal

pub loop-lit-init : goal.loop-lit-init
loop-lit-init c =
    subst (λ (made : List Lit). HasTaken c.args.sorted.now 0 made) (sym c.in_ok-clause.ensures.items) (taken_start c.args.sorted.now)

pub append-requires-clause-clause : goal.append-requires-clause-clause
append-requires-clause-clause c = c.loop-lit.invariant.clause_itself

pub append-requires-clause-up_to : goal.append-requires-clause-up_to
append-requires-clause-up_to c = taken_up_to _ _ _ _ c.requires c.loop-lit-test.true c.loop-lit.invariant

pub returns-then-not-branch-clause-none : goal.returns-then-not-branch-clause-none
returns-then-not-branch-clause-none c =
    taken_clash _ _ _ _ c.loop-lit-test.true c.loop-lit.invariant
    (MatchBool-at_false _ _ c.if-not-branch.true c.in_ok-append.ensures.taken)

pub loop-lit-preserved : goal.loop-lit-preserved
loop-lit-preserved c =
    taken_step _ _ _ _ _ c.loop-lit-test.true c.loop-lit.invariant
    (MatchBool-at_true _ _ c.if-not-branch.false c.in_ok-append.ensures.taken)

pub returns-clause-made : goal.returns-clause-made
returns-clause-made c = taken_end _ _ _ c.loop-lit-test.false c.loop-lit.invariant
