use Rattle.std.proofs.Common.{◌≡◌, List, ℕ, length, refl, sym, ap, ◌∙◌, subst, map}
use Rattle.std.specs.Prelude.{All}
use Rattle.std.specs.List.{IsDistinct}
use Rattle.std.specs.Str.{bytes_eq}
use Rattle.std.proofs.lemmas.List.{length-map}
use Rattle.eco_gates.specs.GateValue.{GateValue}
use Rattle.eco_gates.specs.Gates.{IsWithin}
use Rattle.eco_netlist.specs.Drafted.{declared_of}
use Rattle.eco_netlist.specs.Netlists.{names_at, named_gate}
use Rattle.eco_netlist.specs.Numbering.{HasNets, gate_nets}
use Rattle.eco_netlist.proofs.PlacedLemmas.{gates_placed, parts_made}
use Rattle.eco_netlist.proofs.finish.placed_parts.Goals as goal

pub placed_gates-requires-clause-has : goal.placed_gates-requires-clause-has
placed_gates-requires-clause-has c =
    subst (λ (gates : List GateValue). All (λ gate. HasNets c.args.numbering.now.nets (gate_nets gate)) gates) (sym c.as_slice-gates.ensures.value) c.requires.numbering.1.gates

pub chosen-requires-clause-distinct : goal.chosen-requires-clause-distinct
chosen-requires-clause-distinct c = rw c.nets.ensures c.requires.numbering.1.apart

pub returns-clause-parts : goal.returns-clause-parts
returns-clause-parts c = λ rule is.
    let x = c.args.declarations.now in
    let numbers = c.args.numbering.now.nets in
    let gates = c.in_ok-gates.gates.items in
    let keys : c.in_ok-names.names.keys ≡ names_at x.names.keys numbers = c.in_ok-names.ensures ∙ ap (names_at x.names.keys) c.nets.ensures in
    let named : map (named_gate (names_at x.names.keys numbers)) gates ≡ (declared_of x).gates =
    gates_placed x.names.keys numbers x.gates.items gates c.in_ok-gates.ensures.within (c.in_ok-gates.ensures.placed ∙ c.as_slice-gates.ensures.value) in
    parts_made rule x c.in_ok-names.names.keys gates is.sound
    (subst (λ (l : List (List ℕ)). IsDistinct bytes_eq l) (sym keys) is.apart)
    (keys ∙ is.nets)
    (rw keys named)
    (subst (λ (n : ℕ). IsWithin n gates) (sym (ap length keys ∙ rw length-map refl)) c.in_ok-gates.ensures.within)
