use Rattle.std.proofs.Common.{◌≡◌, map}
use Rattle.std.specs.List.{range_with_len}
use Rattle.eco_aiger.specs.Meaning.{port_name}
use Rattle.eco_aiger.specs.Parts.{file_of}
use Rattle.eco_aiger.proofs.naming.port_names.Given as goal

abbrev pub invariant-loop-port : goal.invariant-loop-port
invariant-loop-port l = l.names.items ≡ map (port_name (file_of l.tree)) (range_with_len 0 l.port)
