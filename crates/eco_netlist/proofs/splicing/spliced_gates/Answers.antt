use Rattle.std.proofs.Common.{◌≡◌, ◌++◌, ℕ, List, length, map, sym, ◌∙◌, ap, subst}
use Rattle.std.proofs.lemmas.List.{length-map}
use Rattle.std.specs.Prelude.{All, Contains}
use Rattle.eco_gates.specs.declared.gate.NetId.{NetId}
use Rattle.eco_gates.specs.GateValue.{GateValue}
use Rattle.eco_gates.specs.Gates.{IsWithin}
use Rattle.eco_meaning.specs.Circuit.{names}
use Rattle.eco_meaning.specs.Patch.{splice_of}
use Rattle.eco_netlist.specs.Netlists.{IsChecked, names_at, AreNets}
use Rattle.eco_netlist.specs.Numbering.{gate_at}
use Rattle.eco_netlist.proofs.SplicedLoops.{IsFitting}
use Rattle.eco_netlist.proofs.SplicedParts.{names_there, gates_spliced}
use Rattle.eco_netlist.proofs.splicing.spliced_gates.Goals as goal

pub places_in-requires : goal.places_in-requires
places_in-requires c =
    let f = c.args.f.now in
    let p = c.args.p.now in
    let is : IsFitting f p c.requires.fits.0 = record {
      netlist = subst IsChecked c.f.view_is c.f.invariant.checked;
      patch = c.net_names.ensures.checked;
      fits = c.requires.fits.1;
    } in
    subst (λ (l : List (List ℕ)). All (Contains c.args.all.now.keys) l) (sym c.net_names.ensures.named)
    (subst (λ (keys : List (List ℕ)). All (Contains keys) (names p)) (sym c.requires.nets) (names_there f p c.requires.fits.0 is))

pub add_gates-requires : goal.add_gates-requires
add_gates-requires c =
    let count : length c.in_ok-places.places.items ≡ length (names c.args.p.now) =
    (rw length-map at (ap length c.in_ok-places.ensures.named)) ∙ ap length c.net_names.ensures.named in
    subst (λ (n : ℕ). IsWithin n c.gates-2.result.now) (sym (ap length c.as_slice.ensures.value ∙ count)) c.gates-2.ensures.within

pub returns : goal.returns
returns c =
    let f = c.args.f.now in
    let p = c.args.p.now in
    let nets : List NetId = c.in_ok-places.places.items in
    let named : names_at (names (splice_of f p)) nets ≡ names p =
    subst (λ (keys : List (List ℕ)). names_at keys nets ≡ c.net_names.result.now) c.requires.nets c.in_ok-places.ensures.named ∙ c.net_names.ensures.named in
    let within : AreNets (names (splice_of f p)) nets = subst (λ (keys : List (List ℕ)). AreNets keys nets) c.requires.nets c.in_ok-places.ensures.within in
    let all = c.in_ok-add_gates.ensures
    ∙ ap (λ (l : List GateValue). l ++ map (gate_at c.as_slice.result.now) c.gates-2.result.now) c.in_ok-gates.ensures
    ∙ ap (λ (l : List NetId). c.gates.result.now ++ map (gate_at l) c.gates-2.result.now) c.as_slice.ensures.value in
    gates_spliced f p nets c.gates.result.now c.gates-2.result.now c.add_gates.new.gates.items
    (record { named = c.gates.ensures.named; within = c.gates.ensures.within })
    (record { named = c.gates-2.ensures.named; within = c.gates-2.ensures.within })
    named within all
