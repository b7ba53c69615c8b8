use Rattle.eco_aiger.proofs.Bodies.{no_header_of_six}
use Rattle.eco_aiger.proofs.literals.header_in.Goals as goal

pub returns-in-len6-clause-none : goal.returns-in-len6-clause-none
returns-in-len6-clause-none c = no_header_of_six c.args.words.now _ c.in-len6.len_at_least c.in-len6.len_below c.header_of_words.result c.header_of_words.ensures.none
