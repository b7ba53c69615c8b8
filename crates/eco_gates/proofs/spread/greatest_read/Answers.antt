-- One more term.
use Rattle.std.proofs.Common.{arith, get_or}
use Rattle.std.proofs.lemmas.Option.{slice_get-get_or}
use Rattle.eco_gates.specs.declared.gate.Term.TheVariants.{Zero}
use Rattle.eco_gates.proofs.Spreading.{greatest_more}
use Rattle.eco_gates.proofs.spread.greatest_read.Goals as goal

pub loop-term-preserved : goal.loop-term-preserved
loop-term-preserved c =
    let k = c.loop-term.term-index in
    let terms = c.args.terms.now in
    rw (c.max-greatest.ensures, c.number_of.ensures)
    (greatest_more c.args.numbers.now c.args.own terms k c.loop-term.greatest (get_or terms k Zero) (slice_get-get_or terms k Zero (omega arith)) c.loop-term.invariant)
