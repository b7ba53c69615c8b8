use Rattle.std.proofs.Common.{◌≡◌, ◌<◌, List, ℕ, [], refl, sym, ap, ◌∙◌, length}
use Rattle.std.specs.Option.{option_map_or}
use Rattle.std.proofs.lemmas.Option.{slice_get_read}
use Rattle.eco_gates.specs.GateValue.{GateValue}
use Rattle.eco_gates.specs.Gates.{IsGateWithin}
use Rattle.eco_netlist.specs.Netlists.{name_at}
use Rattle.eco_netlist.proofs.CircleLemmas.{at_place}
use Rattle.eco_netlist.proofs.NumberLemmas.{All_item}
use Rattle.eco_netlist.proofs.circle.output_name.Goals as goal

pub returns : goal.returns
returns c =
    let inside : IsGateWithin (length c.args.names.now.keys) c.index-gates-index.result =
    All_item (IsGateWithin (length c.args.names.now.keys)) c.args.gates.now c.args.index c.index-gates-index.result c.requires.within c.requires.index c.index-gates-index.is in
    let out : c.gate.inside.out ≡ c.index-gates-index.result.out = ap (λ (g : GateValue). g.out) c.gate.view_is in
    let within : c.gate.inside.out.0 < length c.as_slice.result.now = rw (c.as_slice.ensures.keys, out) inside.out in
    c.in_ok-name.ensures.same
    ∙ sym (at_place c.as_slice.result.now c.gate.inside.out.0 c.index-as_slice-gate.result [] within c.index-as_slice-gate.is)
    ∙ ap (λ (list : List (List ℕ)). name_at list c.gate.inside.out.0) c.as_slice.ensures.keys
    ∙ ap (λ (g : GateValue). name_at c.args.names.now.keys g.out.0) c.gate.view_is
    ∙ ap (λ o. option_map_or (λ (g : GateValue). name_at c.args.names.now.keys g.out.0) o [])
    (sym (slice_get_read c.args.gates.now (length c.args.gates.now) c.args.index c.index-gates-index.result refl c.requires.index c.index-gates-index.is))
