-- A lane in which a net is turned, by the names of the nets.
use Rattle.std.specs.Prelude.{◌↔◌}
use Rattle.std.proofs.Common.{◌≡◌, ℕ, ◌<◌, Bool, true, false, cond, List, [], Some, length, map, replicate, set, get_or, inl, inr, refl, sym, ◌∙◌, ap, subst}
use Rattle.std.specs.List.{slice_get, slice_index_or, IsDistinct}
use Rattle.std.specs.Str.{bytes_eq}
use Rattle.std.proofs.lemmas.Bool.{cases_eq, false_from_ne_true}
use Rattle.std.proofs.lemmas.List.{length-map, get_or-map, get_or-set_same, get_or-set_other, get_or-replicate, length-replicate}
use Rattle.std.proofs.lemmas.Option.{slice_get-get_or, get_or_from_slice_get}
use Rattle.eco_lists.proofs.Members.{Contains-map, map-Contains, map-map}
use Rattle.eco_lists.proofs.Names.{bytes_eq-same, same_name}
use Rattle.eco_lists.proofs.Places.{All_at, Contains_at, map_agree}
use Rattle.eco_meaning.specs.Gates.{apply}
use Rattle.eco_meaning.specs.Circuit.{Circuit, NamedGate, Values, names, value_of, IsConsistent, IsTarget, AgreeOn}
use Rattle.eco_gates.specs.declared.gate.NetId.{NetId}
use Rattle.eco_gates.specs.GateValue.{GateValue}
use Rattle.eco_gates.specs.Gates.{IsGateWithin}
use Rattle.eco_gates.specs.Evaluation.{IsConsistentAt, AgreeUndriven}
use Rattle.eco_gates.specs.Words.{is_set, lane}
use Rattle.eco_laws.specs.Sound.{IsSound}
use Rattle.eco_laws.proofs.OneValue.{same_by_image}
use Rattle.eco_choices.specs.Turned.{IsTurned, IsMendedBit}
use Rattle.eco_choices.proofs.TurnedLemmas.{turned_maps_agree}
use Rattle.eco_netlist.specs.Netlists.{AreNets, KeepsUndriven, bit_of, name_at, names_at, named_gate, named_term}
use Rattle.eco_netlist.specs.Values.{HasInputBits}
use Rattle.eco_netlist.proofs.InputBits.{input_of_map}
use Rattle.eco_netlist.proofs.NameLemmas.{one_place}
use Rattle.eco_netlist.proofs.ValueLemmas.{IsNamed, IsFilled, filled_by_name}
use Rattle.eco_lanes.specs.Turning.{opposite_kind, turned_gate}
use Rattle.eco_lanes.proofs.Opposites.{opposite_value, turned_within, turned_free, free_turned}

-- the circuit with the gate that drives a net of the opposite kind
abbrev pub turned_named : List ℕ → NamedGate → NamedGate
turned_named net g = record { kind = cond (bytes_eq g.out net) (opposite_kind g.kind) g.kind; out = g.out; terms = g.terms }

abbrev pub turned_of : Circuit → List ℕ → Circuit
turned_of f net = record f { gates = map (turned_named net) f.gates }

-- the bits of a lane in which only the net of one number is turned
abbrev pub one_turn : ℕ → ℕ → List Bool
one_turn count net = set (replicate count false) net true

-- what is consistent with it has the net turned
turned_from : (f : Circuit) (net : List ℕ) (v : Values) → IsConsistent (turned_of f net) v → IsTurned f net v
turned_from f net v is = record {
  others = λ g member other.
      let apart : bytes_eq g.out net ≡ false = false_from_ne_true (bytes_eq g.out net) (λ e. other (same_name g.out net e)) in
      subst (λ b. v g.out ≡ apply (cond b (opposite_kind g.kind) g.kind) (map (value_of v) g.terms)) apart
      (is (turned_named net g) (Contains-map (turned_named net) f.gates g member));
  turned = λ g member here.
      let same : bytes_eq g.out net ≡ true = ap (λ name. bytes_eq name net) here ∙ bytes_eq-same net in
      subst (λ b. v g.out ≡ apply (cond b (opposite_kind g.kind) g.kind) (map (value_of v) g.terms)) same
      (is (turned_named net g) (Contains-map (turned_named net) f.gates g member))
      ∙ opposite_value g.kind (map (value_of v) g.terms);
}

-- the turned gate has the name of the net
turned_bit : (list : List (List ℕ)) (net : List ℕ) (number out : ℕ) → IsDistinct bytes_eq list → slice_get list number ≡ Some net → out < length list → bytes_eq (name_at list out) net ≡ slice_index_or (one_turn (length list) number) out false
turned_bit list net number out distinct at within =
    let named : name_at list number ≡ net = get_or_from_slice_get list number net [] at in
    let room : out < length (replicate (length list) false) = rw (length-replicate (length list) false) within in
    elim (cases_eq out number) [
      | inl same ↦
          ap (λ n. bytes_eq (name_at list n) net) same ∙ ap (λ name. bytes_eq name net) named ∙ bytes_eq-same net
          ∙ sym (ap (λ n. get_or (one_turn (length list) number) n false) same
          ∙ get_or-set_same (replicate (length list) false) number true false (subst (λ n. n < length (replicate (length list) false)) same room))
      | inr differ ↦
          let apart : bytes_eq (name_at list out) net ≡ false = false_from_ne_true (bytes_eq (name_at list out) net) (λ e.
          differ (one_place list out number net distinct (slice_get-get_or list out [] within ∙ ap Some (same_name (name_at list out) net e)) at)) in
          apart ∙ sym (get_or-set_other (replicate (length list) false) number out true false differ ∙ get_or-replicate (length list) out false false within)
    ]

-- the turned gates by their numbers are the circuit's by their names
turned_is_named : (f : Circuit) (gates : List GateValue) (net : List ℕ) (number : ℕ) → IsNamed f (names f) gates → slice_get (names f) number ≡ Some net → IsNamed (turned_of f net) (names f) (map (turned_gate (one_turn (length (names f)) number)) gates)
turned_is_named f gates net number is at =
    let list = names f in
    let turns = one_turn (length list) number in
    record {
      numbers = refl;
      named =
          ap (map (turned_named net)) is.named ∙ map-map (named_gate list) (turned_named net) gates
          ∙ map_agree (λ g. turned_named net (named_gate list g)) (λ g. named_gate list (turned_gate turns g)) gates (λ k g here.
          let within = (All_at (IsGateWithin (length list)) gates k g is.within here).out in
          ap (λ b. let h : NamedGate = record { kind = cond b (opposite_kind g.kind) g.kind; out = name_at list g.out.0; terms = map (named_term list) g.ins } in h)
          (turned_bit list net number g.out.0 is.distinct at within))
          ∙ sym (map-map (turned_gate turns) (named_gate list) gates);
      within = turned_within turns gates (length list) is.within;
      distinct = is.distinct;
    }

-- a lane with its values: the net is turned in it, it has the input, and its outputs are their bits
pub record IsTurnedLane (f : Circuit) (x : List Bool) (net : List ℕ) (outputs : List NetId) (bits : List Bool) : Type 0 where
  pub values : Values
  pub turned : IsTurned f net values
  pub input : map values f.inputs ≡ x
  pub output : map values f.outputs ≡ map (λ (o : NetId). slice_index_or bits o.0 false) outputs

module _ (f : Circuit) (gates : List GateValue) (net : List ℕ) (number : ℕ) (sound : IsSound f) (is : IsNamed f (names f) gates) (at : slice_get (names f) number ≡ Some net) (old new : List Bool) where
  abbrev turned_gates : List GateValue
  turned_gates = map (turned_gate (one_turn (length (names f)) number)) gates

  -- what the pass with turned gates gives
  filled : length old ≡ length (names f) → length new ≡ length old → IsConsistentAt turned_gates new → AgreeUndriven gates new old →
      ((bits : List Bool) → length bits ≡ length old → IsConsistentAt turned_gates bits → AgreeUndriven gates bits old → bits ≡ new) → IsFilled (turned_of f net) old new
  filled same_old same_new consistent kept only =
      filled_by_name (turned_of f net) (names f) turned_gates old new (turned_is_named f gates net number is at) same_old same_new consistent
      (λ n free. kept n (free_turned (one_turn (length (names f)) number) gates n free))
      (λ bits same bits_are agree. only bits same bits_are (λ n free. agree n (turned_free (one_turn (length (names f)) number) gates n free)))

  pub lane_is_turned : (x : List Bool) (inputs outputs : List NetId) → IsFilled (turned_of f net) old new →
      names_at (names f) inputs ≡ f.inputs → AreNets (names f) inputs → length inputs ≡ length x → HasInputBits (length (names f)) inputs x (length inputs) old →
      names_at (names f) outputs ≡ f.outputs → AreNets (names f) outputs → IsTurnedLane f x net outputs new
  lane_is_turned x inputs outputs fills named within count started out_named out_within =
      let list = names f in
      let v = bit_of list new in
      let kept : KeepsUndriven f v old = λ k name here free.
      fills.kept v fills.valued k name here (λ driven.
      let (g, member, same) = map-Contains (turned_named net) f.gates driven.0 driven.1 in
      free (g, member, ap (λ (g : NamedGate). g.out) same ∙ driven.2)) in
      record {
        values = v;
        turned = turned_from f net v (fills.consistent v fills.valued);
        input = input_of_map f inputs x old v sound named within count started kept;
        output =
            ap (map v) (sym out_named) ∙ map-map (λ (o : NetId). name_at list o.0) v outputs
            ∙ map_agree (λ (o : NetId). v (name_at list o.0)) (λ (o : NetId). slice_index_or new o.0 false) outputs (λ k o here.
            sym (get_or-map v list o.0 [] false (All_at (λ (o : NetId). o.0 < length list) outputs k o out_within here))
            ∙ ap (λ bits. get_or bits o.0 false) fills.valued);
      }

-- a pass over words gives such a lane
pub lane_of_pass : (f : Circuit) (gates : List GateValue) (x : List Bool) (inputs outputs : List NetId) (turns old new : List ℕ) (place : ℕ) (net : NetId) (name : List ℕ) → IsSound f → IsNamed f (names f) gates →
    slice_get (names f) net.0 ≡ Some name → lane turns place ≡ one_turn (length (names f)) net.0 → length old ≡ length (names f) → length new ≡ length old →
    IsConsistentAt (map (turned_gate (lane turns place)) gates) (lane new place) → AgreeUndriven gates (lane new place) (lane old place) →
    ((bits : List Bool) → length bits ≡ length old → IsConsistentAt (map (turned_gate (lane turns place)) gates) bits → AgreeUndriven gates bits (lane old place) → bits ≡ lane new place) →
    names_at (names f) inputs ≡ f.inputs → AreNets (names f) inputs → length inputs ≡ length x → HasInputBits (length (names f)) inputs x (length inputs) (lane old place) →
    names_at (names f) outputs ≡ f.outputs → AreNets (names f) outputs → IsTurnedLane f x name outputs (lane new place)
lane_of_pass f gates x inputs outputs turns old new place net name sound is at turn same_old same_new consistent kept only named within count started out_named out_within =
    let count_old : length (lane old place) ≡ length old = length-map old (λ word. is_set word place) in
    let count_new : length (lane new place) ≡ length new = length-map new (λ word. is_set word place) in
    let fills = filled f gates name net.0 sound is at (lane old place) (lane new place) (count_old ∙ same_old) (count_new ∙ same_new ∙ sym count_old)
    (subst (λ bits. IsConsistentAt (map (turned_gate bits) gates) (lane new place)) turn consistent) kept
    (λ bits same bits_are agree. only bits (same ∙ count_old) (subst (λ turned. IsConsistentAt (map (turned_gate turned) gates) bits) (sym turn) bits_are) agree) in
    lane_is_turned f gates name net.0 sound is at (lane old place) (lane new place) x inputs outputs fills named within count started out_named out_within

-- the lane tells the net's mended bit
pub bit_of_lane : (f : Circuit) (x wanted : List Bool) (net : List ℕ) (outputs : List NetId) (bits : List Bool) (bit : Bool) → IsSound f → ((name : List ℕ) → IsTarget f name → ⊥) → IsTurnedLane f x net outputs bits →
    ((bit ≡ true) ↔ (map (λ (o : NetId). slice_index_or bits o.0 false) outputs ≡ wanted)) → IsMendedBit f x wanted net bit
bit_of_lane f x wanted net outputs bits bit sound closed lane tells v turned input =
    let agree : AgreeOn (names f) v lane.values = turned_maps_agree f net v lane.values sound closed turned lane.turned (same_by_image v lane.values f.inputs (input ∙ sym lane.input)) in
    let same : map v f.outputs ≡ map (λ (o : NetId). slice_index_or bits o.0 false) outputs =
    map_agree v lane.values f.outputs (λ k name here. agree name (sound.outputs name (Contains_at f.outputs k name here))) ∙ lane.output in
    (λ one. same ∙ tells.0 one, λ e. tells.1 (sym same ∙ e))
