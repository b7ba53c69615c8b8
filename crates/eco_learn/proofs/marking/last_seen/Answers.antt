-- The place is the last one that is seen, or is passed.
use Rattle.std.proofs.Common.{◌≡◌, ℕ, ◌+◌, ◌-◌, sym, ◌∙◌, subst, arith}
use Rattle.eco_learn.specs.Marks.{AreUnseen}
use Rattle.eco_learn.proofs.MarkLaws.{seen_here, unseen_here}
use Rattle.eco_learn.proofs.marking.last_seen.Goals as goal

pub returns-then-has : goal.returns-then-has
returns-then-has c =
    let place = c.loop-place.place in
    let back : place ≡ place - 1 + 1 = omega arith in (
      omega arith,
      omega (arith, c.loop-place.invariant.0),
      seen_here c.args.lits.now c.args.marks.now (place - 1) _ (omega (arith, c.loop-place.invariant.0, c.requires.end)) (sym c.has.ensures ∙ c.if-has.true),
      subst (λ (n : ℕ). AreUnseen c.args.lits.now c.args.marks.now n c.args.end) back c.loop-place.invariant.1,
    )

pub loop-place-preserved : goal.loop-place-preserved
loop-place-preserved c =
    let place = c.loop-place.place in
    let back : place ≡ place - 1 + 1 = omega arith in (
      omega (arith, c.loop-place.invariant.0),
      unseen_here c.args.lits.now c.args.marks.now (place - 1) c.args.end _ (subst (λ (n : ℕ). AreUnseen c.args.lits.now c.args.marks.now n c.args.end) back c.loop-place.invariant.1) (omega (arith, c.loop-place.invariant.0, c.requires.end)) (sym c.has.ensures ∙ c.if-has.false),
    )
