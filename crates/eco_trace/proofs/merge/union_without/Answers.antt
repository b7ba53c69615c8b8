use Rattle.std.proofs.Common.{List, sym, subst}
use Rattle.std.proofs.lemmas.Bool.{MatchBool-at_true, MatchBool-at_false}
use Rattle.eco_trace.specs.declared.clause.Lit.{Lit}
use Rattle.eco_trace.specs.Merging.{IsMerging}
use Rattle.eco_trace.proofs.MergeLaws.{merging_start, merging_up_to, merging_step, merging_clash, merging_end}
use Rattle.eco_trace.proofs.merge.union_without.Goals as goal

pub loop-lit-init : goal.loop-lit-init
loop-lit-init c =
    subst
    (λ (made : List Lit). IsMerging c.args.pivot c.args.left.now c.args.right.now made c.args.left.now c.args.right.now)
    (sym c.in_ok-union.ensures.items)
    (merging_start c.args.pivot c.args.left.now c.args.right.now c.requires.left c.requires.right)

pub least-requires-clause-left : goal.least-requires-clause-left
least-requires-clause-left c = c.loop-lit.invariant.left_clause

pub least-requires-clause-right : goal.least-requires-clause-right
least-requires-clause-right c = c.loop-lit.invariant.right_clause

pub append_unless-requires-clause-clause : goal.append_unless-requires-clause-clause
append_unless-requires-clause-clause c = c.loop-lit.invariant.made_clause

pub append_unless-requires-clause-up_to : goal.append_unless-requires-clause-up_to
append_unless-requires-clause-up_to c = merging_up_to _ _ _ _ _ _ _ _ _ c.loop-lit.invariant c.in-Some.ensures

pub returns-then-not-branch-clause-none : goal.returns-then-not-branch-clause-none
returns-then-not-branch-clause-none c =
    λ clause u. merging_clash _ _ _ _ _ _ _ _ _ clause c.loop-lit.invariant c.in-Some.ensures (MatchBool-at_false _ _ c.if-not-branch.true c.in_ok-append_unless.ensures.taken) u

pub loop-lit-smaller : goal.loop-lit-smaller
loop-lit-smaller c = c.in-Some.ensures.shorter

pub loop-lit-preserved : goal.loop-lit-preserved
loop-lit-preserved c = merging_step _ _ _ _ _ _ _ _ _ _ c.loop-lit.invariant c.in-Some.ensures (MatchBool-at_true _ _ c.if-not-branch.false c.in_ok-append_unless.ensures.taken)

pub returns-clause-made : goal.returns-clause-made
returns-clause-made c = merging_end _ _ _ _ _ _ c.loop-lit.invariant c.in_default.ensures.0 c.in_default.ensures.1
