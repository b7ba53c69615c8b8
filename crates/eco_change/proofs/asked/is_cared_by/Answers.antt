-- The cared netlist has one output, whose value tells whether the input is cared.
use Rattle.std.proofs.Common.{◌≡◌, Bool, List, map, get_or, sym, ◌∙◌, ap}
use Rattle.eco_laws.proofs.OneValue.{same_by_image}
use Rattle.eco_meaning.specs.Circuit.{Values, names}
use Rattle.eco_netlist.specs.Netlists.{bit_of}
use Rattle.eco_change.proofs.AskedLemmas.{tells_cared}
use Rattle.eco_change.proofs.asked.is_cared_by.Goals as goal

pub returns : goal.returns
returns c =
    let care = c.args.care.now in
    let v : Values = bit_of (names c.args.old.now) c.args.values.now in
    let found = c.in_ok-found.found.items in
    let w : Values = bit_of (names care) found in
    let bit = c.index.result.now in
    let inputs : map v care.inputs ≡ map w care.inputs =
    ap (map v) (sym c.inputs.ensures.named) ∙ sym c.in_ok-input.ensures ∙ sym c.as_slice.ensures.value ∙ sym c.in_ok-found.ensures.input in
    let outputs : c.in_ok-outputs.outputs.items ≡ map w care.outputs =
    c.in_ok-outputs.ensures ∙ ap (λ (l : List Bool). map (bit_of (names care) l) care.outputs) c.as_slice-2.ensures.value in
    tells_cared c.args.old.now care v w bit bit c.requires.care c.in_ok-found.ensures.consistent (same_by_image v w care.inputs inputs)
    (sym (c.index.ensures ∙ ap (λ (l : List Bool). get_or l 0 bit) outputs))
