use Rattle.eco_aiger.proofs.SymbolLaws.{no_input}
use Rattle.eco_aiger.proofs.symbols.input_port.Goals as goal

pub returns-clause-none : goal.returns-clause-none
returns-clause-none c = λ outputs. no_input c.args.inputs outputs c.args.word.now c.requires c.place_below.result c.place_below.ensures.none
