use Rattle.std.proofs.Common.{arith}
use Rattle.eco_aiger.proofs.NumberLaws.{not_literal}
use Rattle.eco_aiger.proofs.literals.literal.Goals as goal

pub returns-else-number-top-clause-none : goal.returns-else-number-top-clause-none
returns-else-number-top-clause-none c =
    not_literal c.args.top c.in_ok-number.number c.args.word.now c.in_ok-number.ensures.some (omega arith)
