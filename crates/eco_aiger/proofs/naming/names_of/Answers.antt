use Rattle.std.proofs.Common.{[], length, map, ap, ◌∙◌, arith}
use Rattle.std.specs.Prelude.{nat_eq, codes}
use Rattle.indexmap.specs.IndexSet.{insert_all}
use Rattle.eco_text.specs.Prefix.{fresh_prefix_of}
use Rattle.eco_aiger.specs.declared.tree.Symbol.{Symbol}
use Rattle.eco_aiger.specs.Parts.{file_of}
use Rattle.eco_aiger.proofs.NameLaws.{ports_set, inputs_set, length-port_names}
use Rattle.eco_aiger.proofs.naming.names_of.Goals as goal

pub port_names-ports-requires-clause-ports : goal.port_names-ports-requires-clause-ports
port_names-ports-requires-clause-ports c =
    c.in_ok-named-2.ensures
    ∙ ap (insert_all nat_eq []) (c.as_slice-2.ensures.value ∙ c.in_ok-named.ensures ∙ ap (map (λ (s : Symbol). s.port)) c.as_slice.ensures.value)
    ∙ ports_set c.args.tree.now.symbols.items c.requires.proper.named_once

pub invariant_of-result : goal.invariant_of-result
invariant_of-result c =
    let f = file_of c.args.tree.now in
    let keys = c.in_ok-inputs.ensures ∙ ap (insert_all nat_eq []) c.as_slice-4.ensures.value ∙ inputs_set f c.requires.once in
    let ports = ap length c.in_ok-ports.ensures ∙ length-port_names f in
    let ins = ap length keys in
    (c.in_ok-prefix.ensures.printing, omega (arith, ports, ins))

pub returns : goal.returns
returns c =
    let f = file_of c.args.tree.now in
    let keys = c.in_ok-inputs.ensures ∙ ap (insert_all nat_eq []) c.as_slice-4.ensures.value ∙ inputs_set f c.requires.once in
    let ports = c.in_ok-ports.ensures in
    let prefix = c.in_ok-prefix.ensures.value ∙ ap (fresh_prefix_of (codes "aig")) (c.as_slice-3.ensures.value ∙ ports) in
    (λ i. record { prefix = prefix i; inputs = keys i; ports = ports i })
