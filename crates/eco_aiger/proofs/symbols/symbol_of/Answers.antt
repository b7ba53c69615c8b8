use Rattle.eco_aiger.proofs.SymbolLaws.{port_of_row}
use Rattle.eco_aiger.proofs.symbols.symbol_of.Goals as goal

pub returns-in_err-port-clause-none : goal.returns-in_err-port-clause-none
returns-in_err-port-clause-none c =
    rw c.from_residual.ensures
    (λ s row. c.in_err-port.ensures.none s.port (port_of_row c.args.inputs c.args.outputs c.args.port.now c.args.text.now s row))
