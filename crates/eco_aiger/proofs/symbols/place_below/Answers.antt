use Rattle.std.proofs.Common.{arith}
use Rattle.eco_aiger.proofs.NumberLaws.{not_below}
use Rattle.eco_aiger.proofs.symbols.place_below.Goals as goal

pub returns-else-number-count-clause-none : goal.returns-else-number-count-clause-none
returns-else-number-count-clause-none c =
    not_below c.args.count c.in_ok-number.number c.args.word.now c.in_ok-number.ensures.some (omega arith)
