use Rattle.eco_text.proofs.NumberLaws.{number_utf8}
use Rattle.eco_text.proofs.numbers.number_of.Goals as goal

pub returns-in-Err-clause-none : goal.returns-in-Err-clause-none
returns-in-Err-clause-none c = λ number small is. c.in-Err.ensures.cases.0 (number_utf8 c.args.word.now number small is)
