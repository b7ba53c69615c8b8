use Rattle.std.proofs.Common.{take}
use Rattle.std.specs.Option.{option_copied}
use Rattle.eco_meaning.specs.Circuit.{names}
use Rattle.eco_netlist.specs.Netlists.{names_at}
use Rattle.eco_netlist.specs.Misfits.{IsUnfit, IsLeastIn}
use Rattle.eco_netlist.proofs.fitting.least_unfit.Given as goal

abbrev pub invariant-loop-net : goal.invariant-loop-net
invariant-loop-net l = IsLeastIn (IsUnfit l.f l.p) (names_at (names l.p) (take l.net-index l.net-items)) (option_copied l.least)
