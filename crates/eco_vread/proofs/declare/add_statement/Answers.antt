use Rattle.std.proofs.Common.{refl, ap, ◌∙◌, sym, map}
use Rattle.eco_vread.specs.declared.declare.Section.TheVariants.{Inputs, Outputs, Wires}
use Rattle.eco_vread.specs.Syntax.{name_of}
use Rattle.eco_vread.specs.Views.{identifier_of}
use Rattle.eco_vread.specs.Trees.{statement_of}
use Rattle.eco_vread.specs.Declaring.{with_names, with_statement}
use Rattle.eco_vread.proofs.Declarations.{input_declares, output_declares, wire_declares, gates_declare, gates_proper}
use Rattle.eco_vread.proofs.declare.add_statement.Goals as goal

pub add_instances-requires : goal.add_instances-requires
add_instances-requires c =
    gates_proper c.args.item c.in-Gates.kind c.in-Gates.instances c.in-Gates.instances.items c.in-Gates.is refl c.requires.proper

pub returns-in_ok-add_names-in-Input-clause-declared : goal.returns-in_ok-add_names-in-Input-clause-declared
returns-in_ok-add_names-in-Input-clause-declared c =
    c.in_ok-add_names-in-Input.ensures
    ∙ ap (λ l. with_names Inputs c.args.draft.now (map (λ i. name_of (identifier_of i)) l)) c.as_slice.ensures.value
    ∙ input_declares c.args.draft.now c.args.prefix.bytes.now c.args.before c.in-Input.field-0 c.in-Input.names.items
    ∙ ap (λ i. with_statement c.args.draft.now c.args.prefix.bytes.now c.args.before (statement_of i)) (sym c.in-Input.is)

pub returns-in_ok-add_names-in-Output-clause-declared : goal.returns-in_ok-add_names-in-Output-clause-declared
returns-in_ok-add_names-in-Output-clause-declared c =
    c.in_ok-add_names-in-Output.ensures
    ∙ ap (λ l. with_names Outputs c.args.draft.now (map (λ i. name_of (identifier_of i)) l)) c.as_slice-in-Output.ensures.value
    ∙ output_declares c.args.draft.now c.args.prefix.bytes.now c.args.before c.in-Output.field-0 c.in-Output.names.items
    ∙ ap (λ i. with_statement c.args.draft.now c.args.prefix.bytes.now c.args.before (statement_of i)) (sym c.in-Output.is)

pub returns-in_ok-add_names-in-Wire-clause-declared : goal.returns-in_ok-add_names-in-Wire-clause-declared
returns-in_ok-add_names-in-Wire-clause-declared c =
    c.in_ok-add_names-in-Wire.ensures
    ∙ ap (λ l. with_names Wires c.args.draft.now (map (λ i. name_of (identifier_of i)) l)) c.as_slice-in-Wire.ensures.value
    ∙ wire_declares c.args.draft.now c.args.prefix.bytes.now c.args.before c.in-Wire.names.items
    ∙ ap (λ i. with_statement c.args.draft.now c.args.prefix.bytes.now c.args.before (statement_of i)) (sym c.in-Wire.is)

pub returns-in_ok-add_instances-in-Gates-clause-declared : goal.returns-in_ok-add_instances-in-Gates-clause-declared
returns-in_ok-add_instances-in-Gates-clause-declared c =
    c.in_ok-add_instances-in-Gates.ensures
    ∙ gates_declare c.args.draft.now c.args.prefix.bytes.now c.args.before c.in-Gates.kind c.in-Gates.instances.items
    ∙ ap (λ i. with_statement c.args.draft.now c.args.prefix.bytes.now c.args.before (statement_of i)) (sym c.in-Gates.is)
