use Rattle.std.proofs.Common.{◌≡◌, take, map}
use Rattle.eco_netlist.specs.Building.{output_name}
use Rattle.eco_netlist.proofs.circle.output_names.Given as goal

abbrev pub invariant-loop-index : goal.invariant-loop-index
invariant-loop-index l = l.outputs.items ≡ map (output_name l.names.keys l.gates) (take l.index-index l.circle)
