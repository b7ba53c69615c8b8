use Rattle.std.proofs.Common.{refl, sym, ◌∙◌}
use Rattle.eco_netlist.proofs.NetNames.{names_at_all}
use Rattle.eco_netlist.proofs.PlacedLemmas.{parts_made, plain_made}
use Rattle.eco_netlist.proofs.finish.parts_of.Goals as goal

pub returns-then-is_plain-clause-names : goal.returns-then-is_plain-clause-names
returns-then-is_plain-clause-names c =
    let x = c.args.declarations in
    let all = c.if-is_plain.ensures.0 refl in
    c.plain_parts.ensures.names ∙ sym (names_at_all x.names.keys c.args.numbering.now.nets (all.0 ∙ c.requires.numbering.1.count) all.1)

pub returns-then-is_plain-clause-parts : goal.returns-then-is_plain-clause-parts
returns-then-is_plain-clause-parts c = λ rule is.
    let x = c.args.declarations in
    let all = c.if-is_plain.ensures.0 refl in
    let names = sym (names_at_all x.names.keys c.args.numbering.now.nets (all.0 ∙ is.count) all.1) ∙ is.nets in
    plain_made rule x c.plain_parts.result c.plain_parts.ensures.names c.plain_parts.ensures.gates (parts_made rule x x.names.keys x.gates.items is.sound is.distinct names refl c.requires.drafted.gates)
