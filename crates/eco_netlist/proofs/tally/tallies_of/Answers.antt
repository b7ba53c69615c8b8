use Rattle.std.proofs.Common.{◌<◌, ◌∙◌, ap, subst, sym, replicate}
use Rattle.eco_netlist.specs.Tallies.{AreTallies}
use Rattle.eco_netlist.proofs.TallyLemmas.{AreTallies-from, tally_at-blank, written_all, same_nowhere}
use Rattle.eco_netlist.proofs.tally.tallies_of.Goals as goal

pub returns : goal.returns
returns c =
    let x = c.args.declarations.now in
    let vec = c.in_ok-tallies.ensures in
    let slice = c.as_mut_slice-counted.ensures in
    let blank = c.default.ensures in
    let header = rw c.as_slice.ensures.value at c.note_nets.ensures in
    let inputs = rw c.as_slice-2.ensures.value at c.note_nets-2.ensures in
    let outputs = rw c.as_slice-3.ensures.value at c.note_nets-3.ensures in
    let wires = rw c.as_slice-4.ensures.value at c.note_nets-4.ensures in
    let gates = rw c.as_slice-5.ensures.value at c.note_gates.ensures in
    let none = same_nowhere c.default.result blank.0 blank.1.0 blank.1.1.0 blank.1.1.1.0 blank.1.1.1.1.0 blank.1.1.1.1.1 in
    let items = slice.value ∙ vec.items_if_clones_equal (λ y e. e) ∙ ap (replicate c.len.result) none in
    let long = slice.len ∙ vec.len ∙ c.len.ensures.len in
    subst (AreTallies x)
    (sym (written_all c.in_ok-tallies.tallies.len c.in_ok-tallies.tallies.items c.note_gates.new.tallies (gates.length ∙ wires.length ∙ outputs.length ∙ inputs.length ∙ header.length ∙ slice.len)))
    (AreTallies-from x c.as_mut_slice-counted.result.now c.note_nets.new.tallies c.note_nets-2.new.tallies c.note_nets-3.new.tallies c.note_nets-4.new.tallies c.note_gates.new.tallies
    c.len.ensures.unique c.requires long
    (λ net within. tally_at-blank c.len.result c.as_mut_slice-counted.result.now net items (subst (λ n. net < n) (sym c.len.ensures.len) within))
    (header.length, header.noted) (inputs.length, inputs.noted) (outputs.length, outputs.noted) (wires.length, wires.noted) (gates.length, gates.noted))
