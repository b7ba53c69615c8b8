-- The parts of a netlist stand for the netlist of the declarations, and this one is checked.
use Rattle.std.proofs.Common.{◌≡◌, ℕ, ◌<◌, Bool, true, false, not, ◌&&◌, ◌||◌, List, [], drop, length, map, refl, ap, ◌∙◌, sym, subst, arith, inl, inr, nat_lt}
use Rattle.std.specs.Global.{Vec}
use Rattle.std.specs.Prelude.{Contains, filter, option_map, IsTrue}
use Rattle.std.specs.List.{IsDistinct}
use Rattle.std.specs.Str.{bytes_eq}
use Rattle.std.proofs.lemmas.Bool.{false≢true, not-true}
use Rattle.std.proofs.lemmas.List.{get_or-map, length-map, drop_at}
use Rattle.std.proofs.lemmas.List.Elements.{All-contains, All-map, Contains-get_or, filter_agree}
use Rattle.std.proofs.lemmas.Map.Made.{IsDistinct-from_AllPairs}
use Rattle.std.proofs.lemmas.Option.{slice_get-map, slice_get_within, get_or_from_slice_get}
use Rattle.std.proofs.lemmas.Slice.Eq.{bytes_eq-Decides}
use Rattle.eco_netlist.proofs.NameSets.{Contains-from_has, has-from_Contains}
use Rattle.eco_lists.proofs.Tests.{both}
use Rattle.eco_meaning.specs.Circuit.{Circuit, NamedGate, names, IsTarget, AreTargets}
use Rattle.eco_meaning.specs.Gates.{FitsKind}
use Rattle.eco_meaning.specs.Names.{has, is_target_text}
use Rattle.eco_gates.specs.declared.gate.NetId.{NetId}
use Rattle.eco_gates.specs.GateValue.{GateValue}
use Rattle.eco_gates.specs.Gates.{IsWithin}
use Rattle.eco_gates.specs.Ordering.{IsOrder}
use Rattle.eco_lists.proofs.Places.{place_of, item_at, Contains_at, All_at, All_from_places}
use Rattle.eco_netlist.specs.declared.draft.TargetRule.{TargetRule}
use Rattle.eco_netlist.specs.declared.netlist.Netlist.TheInside.{Inside}
use Rattle.eco_netlist.specs.declared.tally.Place.TheVariants.{Input, Output}
use Rattle.eco_netlist.specs.declared.draft.Declarations.{Declarations}
use Rattle.eco_netlist.specs.declared.making.Lists.{Lists}
use Rattle.eco_netlist.specs.declared.making.Parts.{Parts}
use Rattle.eco_netlist.specs.Building.{AreParts, AreLists, HasParts, HasLists}
use Rattle.eco_netlist.specs.Draft.{Declared, allows, is_target, is_driven, is_declared, is_mentioned, nets_of, made}
use Rattle.eco_netlist.specs.Drafted.{declared_of}
use Rattle.eco_netlist.specs.Refusals.{IsWellDeclared}
use Rattle.eco_netlist.specs.Netlists.{name_at, names_at, named_gate, AreNets, IsChecked}
use Rattle.eco_netlist.specs.Numbered.{circuit_of, IsNumbered}
use Rattle.eco_netlist.specs.Tallies.{tally_of, count_in, is_free}
use Rattle.eco_netlist.specs.Targets.{AreFree}
use Rattle.eco_netlist.proofs.CheckLemmas.{net_driven, net_read, outputs_differ, filter_twice, port_bits, not_both_ways, input_made, output_made, driven_made, free_target}
use Rattle.eco_netlist.proofs.JudgeLemmas.{counted_any}
use Rattle.eco_netlist.proofs.LoopLemmas.{no_loop}
use Rattle.eco_netlist.proofs.NamedGates.{checked_named, once_driven}
use Rattle.eco_netlist.proofs.NetLemmas.{names_made}
use Rattle.eco_netlist.proofs.TargetLemmas.{free_text}

all_four : (a b c e : Bool) → a ≡ true → b ≡ true → c ≡ false → e ≡ false → (a && b && not c && not e) ≡ true
all_four a b c e p q r t = ap (λ x. x && b && not c && not e) p ∙ ap (λ x. x && not c && not e) q ∙ ap (λ x. not x && not e) r ∙ ap not t

-- the form of a target that stands in its test
pub target_parts : (rule : TargetRule) (d : Declared) (name : List ℕ) → is_target rule d name ≡ true → (allows rule ≡ true) × (is_target_text name ≡ true) × (has d.inputs name ≡ false) × (is_driven d name ≡ false)
target_parts rule d name e =
    let outer = both (allows rule && is_target_text name && (is_declared d name || is_mentioned d name) && not (has d.inputs name)) (not (is_driven d name)) e in
    let third = both (allows rule && is_target_text name && (is_declared d name || is_mentioned d name)) (not (has d.inputs name)) outer.0 in
    let second = both (allows rule && is_target_text name) (is_declared d name || is_mentioned d name) third.0 in
    let first = both (allows rule) (is_target_text name) second.0 in
    (first.0, first.1, not-true (has d.inputs name) third.1, not-true (is_driven d name) outer.1)

-- ---- the netlist of the declarations is checked
pub checked_made : (rule : TargetRule) (d : Declared) (list : List (List ℕ)) (gates : List GateValue) (order : List ℕ) → AreParts rule d list gates → IsOrder gates order → IsChecked (made rule d)
checked_made rule d list gates order parts ordered = record {
  distinct = subst (λ (l : List (List ℕ)). IsDistinct bytes_eq l) (parts.nets ∙ sym (names_made rule d)) parts.distinct;
  inputs = filter_twice (has d.inputs) d.header;
  outputs = filter_twice (has d.outputs) d.header;
  directed = λ name port.
      let header : has d.header name ≡ true = has-from_Contains d.header name port in
      input_made rule d name
      ∙ port_bits (has d.header name) (has d.inputs name) (has d.outputs name) header (parts.sound.ports_declared name) (not_both_ways d name parts.sound.declared_once)
      ∙ sym (ap not (output_made rule d name));
  driven_nets = λ g member. member_of_names g.out (net_driven rule d g member);
  read_nets = λ g member name reads. member_of_names name (net_read rule d g name member reads);
  arities = λ g member. All-contains (λ (h : NamedGate). FitsKind h.kind (length h.terms)) d.gates g parts.fitting member;
  driven_once = IsDistinct-from_AllPairs bytes_eq-Decides (map (λ (g : NamedGate). g.out) d.gates) (λ i j name before within same.
      let room : j < length d.gates = rw length-map at within in
      let some = item_at d.gates j room in
      let first = get_or-map (λ (g : NamedGate). g.out) d.gates i some.0 name (omega arith) in
      let second = get_or-map (λ (g : NamedGate). g.out) d.gates j some.0 name room in
      outputs_differ d parts.sound.driven_once i j some.0 before room (sym first ∙ same ∙ second));
  inputs_free = λ name member driven.
      let input : has d.inputs name ≡ true = (both (has d.header name) (has d.inputs name) (sym (input_made rule d name) ∙ has-from_Contains (made rule d).inputs name member)).1 in
      let clash : (has d.inputs name && is_driven d name) ≡ true = ap (λ b. b && is_driven d name) input ∙ driven_made rule d name driven in
      false≢true (sym (parts.sound.inputs_free name) ∙ clash);
  undriven = λ name member free.
      (target_parts rule d name (free_target rule d name parts.sound member free)).1;
  loop_free = no_loop rule d list gates order parts ordered;
}
  where
    member_of_names : (name : List ℕ) → has (nets_of rule d) name ≡ true → Contains (names (made rule d)) name
    member_of_names name e = Contains-from_has (names (made rule d)) name (ap (λ l. has l name) (names_made rule d) ∙ e)

-- ---- the targets
-- what is free by its counts is neither an input nor driven
free_by_counts : (rule : TargetRule) (d : Declared) (name : List ℕ) → is_free rule name (tally_of d name) ≡ (allows rule && is_target_text name && not (has d.inputs name) && not (is_driven d name))
free_by_counts rule d name = simp counted_any

-- each target of the netlist is among those that are free by their counts
free_passes : (rule : TargetRule) (d : Declared) (name : List ℕ) → IsWellDeclared rule d → IsTarget (made rule d) name → is_free rule name (tally_of d name) ≡ true
free_passes rule d name sound target =
    let bits = target_parts rule d name (free_target rule d name sound target.net target.free) in
    free_by_counts rule d name
    ∙ all_four (allows rule) (is_target_text name) (has d.inputs name) (is_driven d name) bits.0 bits.1 bits.2 bits.3

-- a net among the nets is one by its name among the names
named_net : (list : List (List ℕ)) (targets : List NetId) (net : NetId) → Contains targets net → Contains (names_at list targets) (name_at list net.0)
named_net list targets net member =
    let place = place_of targets net member in
    Contains_at (names_at list targets) place.0 (name_at list net.0)
    (slice_get-map (λ (net : NetId). name_at list net.0) targets place.0 ∙ ap (option_map (λ (net : NetId). name_at list net.0)) place.1)

all_free : (rule : TargetRule) (d : Declared) (list : List (List ℕ)) (gates : List GateValue) (targets : List NetId) → AreParts rule d list gates → AreFree (λ name. is_free rule name (tally_of d name)) list targets → (name : List ℕ) → IsTarget (made rule d) name → Contains (names_at list targets) name
all_free rule d list gates targets parts free name target =
    let place = place_of list name (subst (λ (l : List (List ℕ)). Contains l name) (names_made rule d ∙ sym parts.nets) target.net) in
    let is : name_at list place.0 ≡ name = get_or_from_slice_get list place.0 name [] place.1 in
    let within : place.0 < length list = slice_get_within list place.0 name place.1 in
    let passes : is_free rule (name_at list place.0) (tally_of d (name_at list place.0)) ≡ true =
    subst (λ (n : List ℕ). is_free rule n (tally_of d n) ≡ true) (sym is) (free_passes rule d name parts.sound target) in
    subst (λ (n : List ℕ). Contains (names_at list targets) n) is
    (named_net list targets (record { 0 = place.0 }) (free.complete place.0 within passes))

targets_made : (rule : TargetRule) (d : Declared) (list : List (List ℕ)) (gates : List GateValue) (targets : List NetId) → AreParts rule d list gates → AreFree (λ name. is_free rule name (tally_of d name)) list targets → AreTargets (made rule d) (names_at list targets)
targets_made rule d list gates targets parts free = record {
  named = All-map (λ name. IsTrue (is_target_text name)) (λ (net : NetId). name_at list net.0) targets
      (All_from_places (λ net. IsTrue (is_target_text (name_at list net.0))) targets (λ k net at.
      let passes : is_free rule (name_at list net.0) (tally_of d (name_at list net.0)) ≡ true =
      All_at (λ (net : NetId). is_free rule (name_at list net.0) (tally_of d (name_at list net.0)) ≡ true) targets k net free.sound at in
      free_text rule (name_at list net.0) (tally_of d (name_at list net.0)) passes));
  ordered = free.ordered;
  sound = All-map (IsTarget (made rule d)) (λ (net : NetId). name_at list net.0) targets
      (All_from_places (λ net. IsTarget (made rule d) (name_at list net.0)) targets (λ k net at.
      let within : net.0 < length list = All_at (λ (net : NetId). net.0 < length list) targets k net free.within at in
      let passes : is_free rule (name_at list net.0) (tally_of d (name_at list net.0)) ≡ true =
      All_at (λ (net : NetId). is_free rule (name_at list net.0) (tally_of d (name_at list net.0)) ≡ true) targets k net free.sound at in
      let bits = free_parts rule d (name_at list net.0) (sym (free_by_counts rule d (name_at list net.0)) ∙ passes) in
      record {
        net = subst (λ (l : List (List ℕ)). Contains l (name_at list net.0)) (parts.nets ∙ sym (names_made rule d)) (Contains-get_or list net.0 [] within);
        free = λ signal. elim signal [
          | inl input ↦
              false≢true (sym bits.0 ∙ (both (has d.header (name_at list net.0)) (has d.inputs (name_at list net.0))
              (sym (input_made rule d (name_at list net.0)) ∙ has-from_Contains (made rule d).inputs (name_at list net.0) input)).1)
          | inr driven ↦ false≢true (sym bits.1 ∙ driven_made rule d (name_at list net.0) driven)
        ];
      }));
  complete = all_free rule d list gates targets parts free;
}
  where
    free_parts : (rule : TargetRule) (d : Declared) (name : List ℕ) → (allows rule && is_target_text name && not (has d.inputs name) && not (is_driven d name)) ≡ true → (has d.inputs name ≡ false) × (is_driven d name ≡ false)
    free_parts rule d name e =
        let outer = both (allows rule && is_target_text name && not (has d.inputs name)) (not (is_driven d name)) e in
        let middle = both (allows rule && is_target_text name) (not (has d.inputs name)) outer.0 in
        (not-true (has d.inputs name) middle.1, not-true (is_driven d name) outer.1)

-- ---- the parts of a netlist
-- of the ports those are inputs, or outputs, that are counted as such
pub inputs_built : (d : Declared) → filter (λ name. nat_lt 0 (count_in Input (tally_of d name))) d.header ≡ filter (has d.inputs) d.header
inputs_built d =
    filter_agree (λ name. nat_lt 0 (count_in Input (tally_of d name))) (has d.inputs) (λ name. counted_any (bytes_eq name) d.inputs) d.header

pub outputs_built : (d : Declared) → filter (λ name. nat_lt 0 (count_in Output (tally_of d name))) d.header ≡ filter (has d.outputs) d.header
outputs_built d =
    filter_agree (λ name. nat_lt 0 (count_in Output (tally_of d name))) (has d.outputs) (λ name. counted_any (bytes_eq name) d.outputs) d.header

-- the parts of declarations are those of their netlist
pub parts_made_of : (rule : TargetRule) (d : Declared) (parts : Parts) → parts.title ≡ d.title → AreParts rule d parts.names.keys parts.gates.items → HasParts (made rule d) parts
parts_made_of rule d parts title are =
    let nets : parts.names.keys ≡ names (made rule d) = are.nets ∙ sym (names_made rule d) in
    record {
      title = title;
      nets = nets;
      gates = record {
        named = subst (λ (l : List (List ℕ)). map (named_gate l) parts.gates.items ≡ d.gates) nets are.named;
        within = subst (λ (l : List (List ℕ)). IsWithin (length l) parts.gates.items) nets are.within;
      };
    }

-- and so are their lists
pub lists_made_of : (rule : TargetRule) (x : Declarations) (list : List (List ℕ)) (gates : List GateValue) (lists : Lists) → AreParts rule (declared_of x) list gates → AreLists rule x list lists → HasLists (made rule (declared_of x)) lists
lists_made_of rule x list gates lists are listed =
    let n : Circuit = made rule (declared_of x) in
    let nets : list ≡ names n = are.nets ∙ sym (names_made rule (declared_of x)) in
    record {
      ports = subst (λ (l : List (List ℕ)). names_at l lists.ports.items ≡ n.ports) nets listed.ports;
      port_nets = subst (λ (l : List (List ℕ)). AreNets l lists.ports.items) nets listed.port_nets;
      inputs = subst (λ (l : List (List ℕ)). names_at l lists.inputs.items ≡ n.inputs) nets listed.inputs;
      input_nets = subst (λ (l : List (List ℕ)). AreNets l lists.inputs.items) nets listed.input_nets;
      outputs = subst (λ (l : List (List ℕ)). names_at l lists.outputs.items ≡ n.outputs) nets listed.outputs;
      output_nets = subst (λ (l : List (List ℕ)). AreNets l lists.outputs.items) nets listed.output_nets;
      targets = subst (λ (l : List (List ℕ)). AreTargets n (names_at l lists.targets.items)) nets
          (targets_made rule (declared_of x) list gates lists.targets.items are listed.targets);
      target_nets = subst (λ (l : List (List ℕ)). AreNets l lists.targets.items) nets listed.targets.within;
    }

-- parts and lists of a circuit in one netlist
abbrev pub inside_of : Parts → Lists → Vec ℕ → Inside
inside_of parts lists order = record {
  title = parts.title;
  names = parts.names;
  ports = lists.ports;
  inputs = lists.inputs;
  outputs = lists.outputs;
  targets = lists.targets;
  gates = parts.gates;
  order = order;
}

-- they stand for the circuit
pub built_circuit : (n : Circuit) (parts : Parts) (lists : Lists) (order : Vec ℕ) → HasParts n parts → HasLists n lists → circuit_of (inside_of parts lists order) ≡ n
built_circuit n parts lists order has listed =
    let keys : List (List ℕ) = parts.names.keys in
    let ports : names_at keys lists.ports.items ≡ n.ports = ap (λ (l : List (List ℕ)). names_at l lists.ports.items) has.nets ∙ listed.ports in
    let inputs : names_at keys lists.inputs.items ≡ n.inputs = ap (λ (l : List (List ℕ)). names_at l lists.inputs.items) has.nets ∙ listed.inputs in
    let outputs : names_at keys lists.outputs.items ≡ n.outputs = ap (λ (l : List (List ℕ)). names_at l lists.outputs.items) has.nets ∙ listed.outputs in
    let gates : map (named_gate keys) parts.gates.items ≡ n.gates = ap (λ (l : List (List ℕ)). map (named_gate l) parts.gates.items) has.nets ∙ has.gates.named in
    let count : length lists.ports.items ≡ length n.ports = rw length-map at (ap length listed.ports) in
    let wires : drop (length lists.ports.items) keys ≡ n.wires =
    ap (λ (k : ℕ). drop k keys) count ∙ ap (drop (length n.ports)) has.nets ∙ drop_at n.ports n.wires (length n.ports) refl in
    λ i. record {
      title = has.title i;
      ports = ports i;
      inputs = inputs i;
      outputs = outputs i;
      wires = wires i;
      gates = gates i;
    }

-- and are a netlist's
pub built_numbered : (n : Circuit) (parts : Parts) (lists : Lists) (order : Vec ℕ) → IsChecked n → HasParts n parts → HasLists n lists → IsOrder parts.gates.items order.items → IsNumbered (inside_of parts lists order)
built_numbered n parts lists order checked has listed ordered =
    let is : circuit_of (inside_of parts lists order) ≡ n = built_circuit n parts lists order has listed in
    let back : names n ≡ parts.names.keys = sym has.nets in
    record {
      numbers = ap names is ∙ back;
      port_nets = subst (λ (l : List (List ℕ)). AreNets l lists.ports.items) back listed.port_nets;
      input_nets = subst (λ (l : List (List ℕ)). AreNets l lists.inputs.items) back listed.input_nets;
      output_nets = subst (λ (l : List (List ℕ)). AreNets l lists.outputs.items) back listed.output_nets;
      target_nets = subst (λ (l : List (List ℕ)). AreNets l lists.targets.items) back listed.target_nets;
      gate_nets = subst (λ (l : List (List ℕ)). IsWithin (length l) parts.gates.items) back has.gates.within;
      once = once_driven n parts.gates.items checked (checked_named n parts.gates.items checked has.gates);
      ordered = ordered;
      free = subst (λ (m : Circuit). AreTargets m (names_at parts.names.keys lists.targets.items)) (sym is)
          (subst (λ (l : List (List ℕ)). AreTargets n (names_at l lists.targets.items)) back listed.targets);
      checked = subst (λ (m : Circuit). IsChecked m) (sym is) checked;
    }

-- the lists of a netlist again
pub lists_again : (n : Circuit) (lists : Lists) (ports inputs outputs targets : List NetId) → lists.ports.items ≡ ports → lists.inputs.items ≡ inputs → lists.outputs.items ≡ outputs → lists.targets.items ≡ targets →
    names_at (names n) ports ≡ n.ports → AreNets (names n) ports → names_at (names n) inputs ≡ n.inputs → AreNets (names n) inputs → names_at (names n) outputs ≡ n.outputs → AreNets (names n) outputs →
    AreTargets n (names_at (names n) targets) → AreNets (names n) targets → HasLists n lists
lists_again n lists ports inputs outputs targets is_ports is_inputs is_outputs is_targets ports_named ports_in inputs_named inputs_in outputs_named outputs_in targets_named targets_in = record {
  ports = ap (names_at (names n)) is_ports ∙ ports_named;
  port_nets = subst (λ (l : List NetId). AreNets (names n) l) (sym is_ports) ports_in;
  inputs = ap (names_at (names n)) is_inputs ∙ inputs_named;
  input_nets = subst (λ (l : List NetId). AreNets (names n) l) (sym is_inputs) inputs_in;
  outputs = ap (names_at (names n)) is_outputs ∙ outputs_named;
  output_nets = subst (λ (l : List NetId). AreNets (names n) l) (sym is_outputs) outputs_in;
  targets = subst (λ (l : List NetId). AreTargets n (names_at (names n) l)) (sym is_targets) targets_named;
  target_nets = subst (λ (l : List NetId). AreNets (names n) l) (sym is_targets) targets_in;
}
