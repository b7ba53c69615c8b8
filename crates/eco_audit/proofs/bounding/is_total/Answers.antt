-- The amounts so far and what is left are the total.
use Rattle.std.proofs.Common.{ap, arith}
use Rattle.std.proofs.lemmas.Bool.{false≢true}
use Rattle.eco_meaning.specs.Bound.{Part}
use Rattle.eco_audit.proofs.Bounds.{amount_more, amount_least}
use Rattle.eco_audit.proofs.bounding.is_total.Goals as goal

pub returns-then-amount-left : goal.returns-then-amount-left
returns-then-amount-left c = (
  λ holds. absurd (false≢true holds),
  λ same.
      let amount = ap (λ (part : Part). part.amount) c.part.view_is in
      let least = amount_least c.args.parts.now c.loop-part.part-index c.part-item.result c.part-item.is (omega arith) in
      absurd (omega (arith, amount, least, same, c.loop-part.invariant, c.if-amount-left.true, c.from-amount.ensures)),
)

pub loop-part-preserved : goal.loop-part-preserved
loop-part-preserved c =
    let amount = ap (λ (part : Part). part.amount) c.part.view_is in
    let more = amount_more c.args.parts.now c.loop-part.part-index c.part-item.result c.part-item.is (omega arith) in
    omega (arith, amount, more, c.loop-part.invariant, c.if-amount-left.false, c.from-amount.ensures)
