use Rattle.std.proofs.Common.{◌≡◌, take, map}
use Rattle.eco_vread.specs.Syntax.{name_of}
use Rattle.eco_vread.specs.Views.{identifier_of}
use Rattle.eco_vread.specs.Declaring.{with_names}
use Rattle.eco_vread.proofs.declare.add_names.Given as goal

abbrev pub invariant-loop-ident : goal.invariant-loop-ident
invariant-loop-ident l =
    l.draft ≡ with_names l.section l.initial.draft (map (λ i. name_of (identifier_of i)) (take l.ident-index l.names))
