use Rattle.std.proofs.lemmas.Bool.{iff_false}
use Rattle.eco_prooftext.proofs.WordReadLaws.{not_between}
use Rattle.eco_prooftext.proofs.words.variable.Goals as goal

pub returns-else-is_between-clause-none : goal.returns-else-is_between-clause-none
returns-else-is_between-clause-none c =
    not_between c.args.vars c.in_ok-number.number c.args.digits.now c.in_ok-number.ensures.some (iff_false c.is_between.ensures c.if-is_between.false)
