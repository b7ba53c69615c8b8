use Rattle.std.proofs.Common.{ap, ◌∙◌, sym, map}
use Rattle.eco_vread.specs.declared.tree.Direction.TheVariants.{In}
use Rattle.eco_vread.specs.Trees.{port_of}
use Rattle.eco_vread.specs.Declaring.{with_directions}
use Rattle.eco_vread.proofs.Declarations.{directed_header, plain_header}
use Rattle.eco_vread.proofs.declare.add_declared.Goals as goal

pub returns-in_ok-add_directions : goal.returns-in_ok-add_directions
returns-in_ok-add_directions c =
    c.in_ok-add_directions.ensures
    ∙ ap (λ d. with_directions d In (map port_of c.args.ports.now)) c.in_ok-add_ports.ensures
    ∙ directed_header c.args.draft.now c.args.ports.now (sym c.has_directions.ensures ∙ c.if-has_directions.true)

pub returns-else-has_directions : goal.returns-else-has_directions
returns-else-has_directions c =
    c.in_ok-add_ports.ensures ∙ plain_header c.args.draft.now c.args.ports.now (sym c.has_directions.ensures ∙ c.if-has_directions.false)
