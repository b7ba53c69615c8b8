use Rattle.std.proofs.lemmas.Bool.{iff_false}
use Rattle.eco_aiger.proofs.NumberLaws.{not_plain}
use Rattle.eco_aiger.proofs.literals.plain_literal.Goals as goal

pub returns-else-can_define-clause-none : goal.returns-else-can_define-clause-none
returns-else-can_define-clause-none c =
    not_plain c.args.top c.in_ok-number.number c.args.word.now c.in_ok-number.ensures.some (iff_false c.can_define.ensures c.if-can_define.false)
