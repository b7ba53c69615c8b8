use Rattle.eco_text.proofs.NumberLaws.{none_parsed, none_other}
use Rattle.eco_text.proofs.numbers.number_of_text.Goals as goal

pub returns-in-Ok-clause-none : goal.returns-in-Ok-clause-none
returns-in-Ok-clause-none c = none_other c.args.text.now c.parse.result _ _ c.in-Ok.is c.parse.ensures.value.0 c.checked_number.ensures.none

pub returns-in-Err-clause-none : goal.returns-in-Err-clause-none
returns-in-Err-clause-none c = none_parsed c.args.text.now c.parse.result _ c.in-Err.is c.parse.ensures.value.0
