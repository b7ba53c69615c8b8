use Rattle.std.proofs.Common.{rules}
use Rattle.eco_netlist.proofs.NameLemmas.{slice_get-position}
use Rattle.eco_netlist.proofs.names.number_of.Goals as goal

pub returns-in-Some : goal.returns-in-Some
returns-in-Some c = search (rules, slice_get-position, c.in-Some.ensures.index)
