-- Each place of level 0 has a reason; at the end nothing is left.
use Rattle.std.proofs.Common.{◌+◌, List, length, ◌∙◌, subst, arith}
use Rattle.eco_trace.specs.declared.clause.Lit.{Lit}
use Rattle.eco_learn.specs.Marks.{AreUnseen}
use Rattle.eco_learn.proofs.MarkLaws.{unseen_join}
use Rattle.eco_learn.proofs.chain.Chain.walk_down.Goals as goal

pub resolve_at-requires-clause-forced : goal.resolve_at-requires-clause-forced
resolve_at-requires-clause-forced c = λ place le lt decided.
    c.requires.forced place (omega arith) (omega (arith, c.in-Some.ensures.1, c.loop-place.invariant.0)) decided

pub loop-place-preserved : goal.loop-place-preserved
loop-place-preserved c =
    let marks = c.loop-place.self.marks in
    let front = subst (λ (ls : List Lit). AreUnseen ls marks (c.in-Some.place + 1) c.loop-place.end) c.lits.ensures c.in-Some.ensures.3 in (
      omega (arith, c.in-Some.ensures.1, c.loop-place.invariant.0),
      c.in_ok-resolve_at.ensures.start ∙ c.loop-place.invariant.1,
      omega (arith, c.in_ok-resolve_at.ensures.long, c.loop-place.invariant.2),
      c.in_ok-resolve_at.ensures.so_far,
      c.in_ok-resolve_at.ensures.behind (unseen_join c.args.trail.now.lits marks (c.in-Some.place + 1) c.loop-place.end (length c.args.trail.now.lits) front c.loop-place.invariant.4),
    )

pub returns-clause-gone : goal.returns-clause-gone
returns-clause-gone c =
    let marks = c.loop-place.self.marks in
    let front = subst (λ (ls : List Lit). AreUnseen ls marks 0 c.loop-place.end) c.lits.ensures c.in_default.ensures in
    unseen_join c.args.trail.now.lits marks 0 c.loop-place.end (length c.args.trail.now.lits) front c.loop-place.invariant.4
