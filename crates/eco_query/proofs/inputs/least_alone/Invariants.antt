use Rattle.std.proofs.Common.{take}
use Rattle.std.specs.Option.{option_copied}
use Rattle.eco_query.specs.Ports.{is_alone, IsLeastOf}
use Rattle.eco_query.proofs.inputs.least_alone.Given as goal

abbrev pub invariant-loop-input : goal.invariant-loop-input
invariant-loop-input l = IsLeastOf (is_alone l.netlist l.other) (take l.input-index l.netlist.inputs) (option_copied l.least)
