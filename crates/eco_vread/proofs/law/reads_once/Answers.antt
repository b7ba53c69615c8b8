use Rattle.eco_vread.proofs.Uniqueness.{one_netlist}
use Rattle.eco_vread.proofs.law.reads_once.Goals as goal

pub returns : goal.returns
returns c = one_netlist
