use Rattle.std.proofs.Common.{◌≡◌, ap, ◌∙◌, length, refl}
use Rattle.eco_netlist.specs.Numbering.{Chosen}
use Rattle.eco_netlist.proofs.NumberedNets.{added, numbering_added}
use Rattle.eco_netlist.proofs.numbering.numbering_of.Goals as goal

pub returns : goal.returns
returns c =
    let names : c.add_gates.new.numbering.names ≡ length c.args.declarations.now.names.keys =
    c.in_ok-add_gates.ensures.names ∙ c.in_ok-add_wires.ensures.names ∙ c.in_ok-add_nets.ensures.names
    ∙ ap (λ (n : Chosen). n.names) c.in_ok-numbering.ensures.none ∙ ap length c.as_slice-names.ensures.keys in
    let nets : c.add_gates.new.numbering.nets ≡ added c.args.rule c.args.declarations.now c.args.tallies.now =
    rw (
      c.in_ok-add_gates.ensures.added,
      c.in_ok-add_wires.ensures.added,
      c.in_ok-add_nets.ensures.added,
      c.in_ok-numbering.ensures.none,
      c.as_slice.ensures.value,
      c.as_slice-2.ensures.value,
      c.as_slice-3.ensures.value,
      c.as_slice-names.ensures.keys,
    ) refl in
    numbering_added c.args.rule c.args.declarations.now c.args.tallies.now c.add_gates.new.numbering c.as_slice-names.ensures.unique
    c.requires.drafted c.requires.tallies c.requires.sound
    (λ i. record { names = names i; nets = nets i })
