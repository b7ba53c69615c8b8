-- All parts before the first whose inputs aren't forced are.
use Rattle.std.proofs.Common.{[], refl, sym, subst}
use Rattle.std.specs.List.{All}
use Rattle.std.proofs.lemmas.Bool.{false≢true, both_ways}
use Rattle.std.proofs.lemmas.List.{take_all}
use Rattle.std.proofs.lemmas.List.Elements.{All-more}
use Rattle.eco_audit.specs.Bounds.{IsForcedPartHere}
use Rattle.eco_audit.proofs.bounding.are_forced_parts.Goals as goal

pub returns-then-not-forced : goal.returns-then-not-forced
returns-then-not-forced g c = λ group at.
    let forced_here = IsForcedPartHere c.args.solution.now [] group in (
      λ holds. absurd (false≢true holds),
      λ all. absurd (both_ways c.in_ok-forced.forced c.if-not-forced.true ((c.in_ok-forced.ensures group at).1
          (subst forced_here (sym c.part-item.is) (all c.loop-part.part-index c.part-item.result c.loop-part-test.true)))),
    )

pub loop-part-preserved : goal.loop-part-preserved
loop-part-preserved g c = λ group at.
    let forced_here = IsForcedPartHere c.args.solution.now [] group in
    All-more forced_here c.args.parts.now c.loop-part.part-index c.part-item.result c.loop-part-test.true (c.loop-part.invariant group at)
    (subst forced_here c.part-item.is ((c.in_ok-forced.ensures group at).0 c.if-not-forced.false))

pub returns : goal.returns
returns g c = λ group at.
    let forced_here = IsForcedPartHere c.args.solution.now [] group in (
      λ holds. subst (All forced_here) (take_all c.loop-part.part-index c.args.parts.now c.loop-part-test.false) (c.loop-part.invariant group at),
      λ all. refl,
    )
