use Rattle.std.proofs.lemmas.Slice.Eq.{slice_eq-Decides}
use Rattle.eco_netlist.proofs.FanNames.{net_eq-Decides}
use Rattle.eco_netlist.proofs.sameness.are_same_nets.Goals as goal

pub returns : goal.returns
returns c = slice_eq-Decides net_eq-Decides _ _ _ c.eq.ensures
