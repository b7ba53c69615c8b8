use Rattle.std.proofs.Common.{◌≡◌, take, map}
use Rattle.eco_vread.specs.Syntax.{name_of}
use Rattle.eco_vread.specs.Views.{identifier_of}
use Rattle.eco_vread.specs.declared.declare.Section.TheVariants.{Header}
use Rattle.eco_vread.specs.Declaring.{with_names}
use Rattle.eco_vread.proofs.declare.add_ports.Given as goal

abbrev pub invariant-loop-port : goal.invariant-loop-port
invariant-loop-port l =
    l.draft ≡ with_names Header l.initial.draft (map (λ p. name_of (identifier_of p.name)) (take l.port-index l.ports))
