use Rattle.std.proofs.Common.{take}
use Rattle.std.specs.Option.{option_copied}
use Rattle.eco_query.specs.Ports.{is_unlike, IsLeastOf}
use Rattle.eco_query.proofs.ports.least_unlike.Given as goal

abbrev pub invariant-loop-port : goal.invariant-loop-port
invariant-loop-port l = IsLeastOf (is_unlike l.netlist l.other) (take l.port-index l.netlist.ports) (option_copied l.least)
