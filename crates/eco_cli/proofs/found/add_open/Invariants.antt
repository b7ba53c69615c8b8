use Rattle.std.proofs.Common.{◌≡◌, ◌++◌, take}
use Rattle.std.specs.List.{flat_map}
use Rattle.eco_meaning.specs.Circuit.{names}
use Rattle.eco_cli.specs.Found.{open_line}
use Rattle.eco_cli.proofs.found.add_open.Given as goal

abbrev pub invariant-loop-net : goal.invariant-loop-net
invariant-loop-net l = l.text.items ≡ l.fn.text.items ++ flat_map (open_line (names l.f)) (take l.net-index l.nets)
