use Rattle.eco_aiger.proofs.OnceLaws.{one_netlist}
use Rattle.eco_aiger.proofs.law.reads_once.Goals as goal

pub returns : goal.returns
returns c = one_netlist
