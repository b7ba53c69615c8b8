use Rattle.std.proofs.Common.{◌≡◌, ◌++◌, take, codes}
use Rattle.std.specs.List.{flat_map}
use Rattle.eco_meaning.specs.Circuit.{names}
use Rattle.eco_netlist.specs.Netlists.{name_at}
use Rattle.eco_vwrite.specs.Written.{name_text}
use Rattle.eco_vwrite.proofs.terms.push_others.Given as goal

abbrev pub invariant-loop-net : goal.invariant-loop-net
invariant-loop-net l =
    l.text.items ≡ l.initial.text.items ++ flat_map (λ net. codes ", " ++ name_text (name_at (names l.netlist) net.0)) (take l.net-index l.nets)
