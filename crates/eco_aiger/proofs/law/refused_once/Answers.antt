use Rattle.eco_aiger.proofs.Exclusive.{netlist_unrefused, one_cause}
use Rattle.eco_aiger.proofs.law.refused_once.Goals as goal

pub returns-clause-unrefused : goal.returns-clause-unrefused
returns-clause-unrefused c = netlist_unrefused

pub returns-clause-one_cause : goal.returns-clause-one_cause
returns-clause-one_cause c = one_cause
