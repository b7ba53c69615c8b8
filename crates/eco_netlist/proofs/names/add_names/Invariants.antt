use Rattle.std.proofs.Common.{◌≡◌, ◌++◌, take}
use Rattle.eco_netlist.proofs.names.add_names.Given as goal

abbrev pub invariant-loop-name : goal.invariant-loop-name
invariant-loop-name l = l.names.keys ≡ l.fn.names.keys ++ take l.name-index l.added
