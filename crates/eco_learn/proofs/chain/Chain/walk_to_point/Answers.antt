-- Behind the first place each place has a reason; at the end one is left.
use Rattle.std.proofs.Common.{◌+◌, List, length, ap, ◌∙◌, subst, arith}
use Rattle.std.proofs.lemmas.Option.{slice_get_within}
use Rattle.eco_trace.specs.declared.clause.Lit.{Lit}
use Rattle.eco_learn.specs.Marks.{IsSeenAt, AreUnseen}
use Rattle.eco_learn.proofs.MarkLaws.{unseen_join}
use Rattle.eco_learn.proofs.chain.Chain.walk_to_point.Goals as goal

pub resolve_at-requires-clause-forced : goal.resolve_at-requires-clause-forced
resolve_at-requires-clause-forced c = λ place le lt decided.
    c.requires.forced place (omega (arith, c.in-Some.ensures.0, c.in-Some.ensures.1)) (omega (arith, c.loop-other.invariant.1)) decided

pub last_seen-requires-in-Some-clause-end : goal.last_seen-requires-in-Some-clause-end
last_seen-requires-in-Some-clause-end c =
    let within = slice_get_within c.args.trail.now.lits c.loop-other.place c.loop-other.invariant.5.lit c.loop-other.invariant.5.lit_at in
    omega (arith, within, ap length c.lits-in-Some.ensures)

pub loop-other-preserved : goal.loop-other-preserved
loop-other-preserved c =
    let marks = c.resolve_at.new.self.marks in
    let lits = c.args.trail.now.lits in
    let next = c.in-Some-last_seen.next in
    let seen = subst (λ (ls : List Lit). IsSeenAt ls marks next) c.lits-in-Some.ensures c.in-Some-last_seen.ensures.2 in
    let front = subst (λ (ls : List Lit). AreUnseen ls marks (next + 1) c.loop-other.place) c.lits-in-Some.ensures c.in-Some-last_seen.ensures.3 in (
      omega (arith, c.in-Some.ensures.0, c.in-Some-last_seen.ensures.0),
      omega (arith, c.in-Some-last_seen.ensures.1, c.loop-other.invariant.1),
      c.in_ok-resolve_at.ensures.start ∙ c.loop-other.invariant.2,
      omega (arith, c.in_ok-resolve_at.ensures.long, c.loop-other.invariant.3),
      c.in_ok-resolve_at.ensures.so_far,
      seen,
      unseen_join lits marks (next + 1) c.loop-other.place (length lits) front (c.in_ok-resolve_at.ensures.behind c.loop-other.invariant.6),
    )

pub returns-clause-point : goal.returns-clause-point
returns-clause-point c = record {
  from = c.loop-other.invariant.0;
  seen = c.loop-other.invariant.5;
  before = subst (λ (ls : List Lit). AreUnseen ls c.loop-other.self.marks c.args.first c.loop-other.place) c.lits.ensures c.in_default.ensures;
  behind = c.loop-other.invariant.6;
}
