use Rattle.std.proofs.Common.{arith}
use Rattle.eco_text.proofs.NumberLaws.{not_up_to}
use Rattle.eco_text.proofs.numbers.number_up_to.Goals as goal

pub returns-else-number-most-clause-none : goal.returns-else-number-most-clause-none
returns-else-number-most-clause-none c =
    not_up_to c.args.most c.in_ok-number.number c.args.word.now c.in_ok-number.ensures.some.0 c.in_ok-number.ensures.some.1 (omega arith)
