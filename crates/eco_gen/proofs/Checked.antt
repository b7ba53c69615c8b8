-- A drawn netlist is a checked one.
use Rattle.std.proofs.Common.{◌≡◌, ◌≢◌, ℕ, zero, suc, ◌+◌, ◌*◌, ◌<◌, ◌≤◌, inl, inr, Bool, false, not, List, [], ◌∷◌, ◌++◌, length, get_or, map, refl, sym, ◌∙◌, ap, subst, arith}
use Rattle.std.specs.Prelude.{IsTrue, codes}
use Rattle.std.specs.List.{filter, range_with_len, AllPairs, Contains, IsDistinct}
use Rattle.std.specs.Str.{bytes_eq}
use Rattle.std.proofs.lemmas.List.{append-nil, map-append}
use Rattle.std.proofs.lemmas.List.Elements.{Contains-append_cases, filter-append}
use Rattle.eco_lists.proofs.Members.{Contains_first, Contains_later, map-map, map-Contains}
use Rattle.eco_meaning.specs.Names.{has, is_target_text}
use Rattle.eco_meaning.specs.Gates.{FitsKind}
use Rattle.eco_meaning.specs.Circuit.{NamedGate, names, Reads, IsDriven, IsSignal}
use Rattle.eco_netlist.specs.Netlists.{IsChecked}
use Rattle.eco_netlist.proofs.NameSets.{IsDistinct-append, filter_all, has-from_Contains, has-from_absent}
use Rattle.eco_text.proofs.NumberedNames.{numbered-injective}
use Rattle.eco_gen.specs.declared.TheConstants.{INPUTS, MOST_GATES}
use Rattle.eco_gen.specs.Cutting.{MayCut}
use Rattle.eco_gen.specs.Drawn.{numbered_kind, draw, kept_gates, unread_gates, input_name, output_name, target_name, input_names, output_names, signal_name, drawn_gate, port_gate, drawn_netlist}
use Rattle.eco_gen.proofs.Loops.{IsLoopFree-drawn}
use Rattle.eco_gen.proofs.Names.{input_no_output, signal_low, signal_once, signal_no_output}
use Rattle.eco_gen.proofs.Ranges.{distinct_images, range_once, from_range, from_image}
use Rattle.eco_gen.proofs.Structure.{few_unread, IsGateOf, kept, port, gate_is, kept_is, kept_once, unread_below, drawn_reads, port_reads, signal_net, output_net}
use Rattle.eco_gen.proofs.Targets.{input_is, is_target_text-name, signal_or_target}

-- names of inputs, of outputs and of wires
pub distinct_inputs : IsDistinct bytes_eq input_names
distinct_inputs =
    distinct_images input_name (range_with_len 0 INPUTS) (range_once INPUTS)
    (λ a b c d e. numbered-injective (codes "x") a b (let lt = from_range INPUTS a c in omega arith) (let lt = from_range INPUTS b d in omega arith) e)

pub inputs_once : (seed size targets : ℕ) → IsDistinct bytes_eq (drawn_netlist seed size targets).inputs
unfolding drawn_netlist
inputs_once seed size targets = distinct_inputs

pub distinct_targets : (targets : ℕ) → targets ≤ 8 → IsDistinct bytes_eq (map target_name (range_with_len 0 targets))
distinct_targets targets few =
    distinct_images target_name (range_with_len 0 targets) (range_once targets)
    (λ a b c d e. numbered-injective (codes "t_") a b (let lt = from_range targets a c in omega arith) (let lt = from_range targets b d in omega arith) e)

pub distinct_outputs : (seed size : ℕ) → size ≤ MOST_GATES → IsDistinct bytes_eq (output_names seed size)
distinct_outputs seed size small =
    let few = few_unread seed size in
    distinct_images output_name (range_with_len 0 (length (unread_gates seed size))) (range_once (length (unread_gates seed size)))
    (λ a b c d e. numbered-injective (codes "y") a b (let lt = from_range (length (unread_gates seed size)) a c in omega arith) (let lt = from_range (length (unread_gates seed size)) b d in omega arith) e)

distinct_gates : (size targets : ℕ) (gates : List ℕ) → MayCut size targets → AllPairs (λ a b. a ≢ b) gates → ((j : ℕ) → Contains gates j → j < size) → IsDistinct bytes_eq (map (λ j. signal_name size targets (INPUTS + j)) gates)
distinct_gates size targets gates may once below =
    distinct_images (λ j. signal_name size targets (INPUTS + j)) gates once
    (λ a b c d e.
    let lt_a = below a c in
    let lt_b = below b d in
    let same = signal_once size targets (INPUTS + a) (INPUTS + b) may (omega arith) (omega arith) e in
    omega (arith, same))

pub apart_ports : (seed size : ℕ) (name : List ℕ) → Contains input_names name → Contains (output_names seed size) name → ⊥
apart_ports seed size name input out =
    let k = from_image input_name INPUTS name input in
    let m = from_image output_name (length (unread_gates seed size)) name out in
    input_no_output k.0 m.0 (k.2 ∙ sym m.2)

apart_wires : (seed size targets : ℕ) → MayCut size targets → (name : List ℕ) → Contains (input_names ++ output_names seed size) name → Contains (map (λ j. signal_name size targets (INPUTS + j)) (range_with_len 0 size)) name → ⊥
apart_wires seed size targets may name ports wire =
    let found = from_image (λ j. signal_name size targets (INPUTS + j)) size name wire in
    elim (Contains-append_cases input_names (output_names seed size) name ports) [
      | inl input ↦
          let k = from_image input_name INPUTS name input in
          let same = signal_once size targets k.0 (INPUTS + found.0) may (omega (arith, k.1)) (omega (arith, found.1)) (signal_low size targets k.0 k.1 ∙ k.2 ∙ sym found.2) in
          omega (arith, same, k.1)
      | inr out ↦
          let m = from_image output_name (length (unread_gates seed size)) name out in
          signal_no_output size targets (INPUTS + found.0) m.0 (found.2 ∙ sym m.2)
    ]

pub distinct_names : (seed size targets : ℕ) → MayCut size targets → IsDistinct bytes_eq (names (drawn_netlist seed size targets))
unfolding drawn_netlist
distinct_names seed size targets may =
    IsDistinct-append (input_names ++ output_names seed size) (map (λ j. signal_name size targets (INPUTS + j)) (range_with_len 0 size))
    (IsDistinct-append input_names (output_names seed size) distinct_inputs (distinct_outputs seed size may.few_gates) (apart_ports seed size))
    (distinct_gates size targets (range_with_len 0 size) may (range_once size) (from_range size))
    (apart_wires seed size targets may)

-- the filters of ports
filter_none : (p : List ℕ → Bool) (xs : List (List ℕ)) → ((x : List ℕ) → Contains xs x → p x ≡ false) → filter p xs ≡ []
filter_none p [] h = refl
filter_none p (x ∷ xs) h = rw (h x (Contains_first x xs)) (filter_none p xs (λ y c. h y (Contains_later x y xs c)))

inputs_filtered : (I O : List (List ℕ)) → ((name : List ℕ) → Contains I name → Contains O name → ⊥) → I ≡ filter (has I) (I ++ O)
inputs_filtered I O apart =
    rw (filter-append (has I) I O, filter_all (has I) I (has-from_Contains I), filter_none (has I) O (λ x c. has-from_absent I x (λ d. apart x d c)))
    (sym (append-nil I))

outputs_filtered : (I O : List (List ℕ)) → ((name : List ℕ) → Contains I name → Contains O name → ⊥) → O ≡ filter (has O) (I ++ O)
outputs_filtered I O apart =
    rw (filter-append (has O) I O, filter_all (has O) O (has-from_Contains O), filter_none (has O) I (λ x c. has-from_absent O x (λ d. apart x c d)))
    refl

directed : (I O : List (List ℕ)) → ((name : List ℕ) → Contains I name → Contains O name → ⊥) → (name : List ℕ) → Contains (I ++ O) name → has I name ≡ not (has O name)
directed I O apart name c =
    elim (Contains-append_cases I O name c) [
      | inl input ↦ has-from_Contains I name input ∙ sym (ap not (has-from_absent O name (apart name input)))
      | inr out ↦ has-from_absent I name (λ d. apart name d out) ∙ sym (ap not (has-from_Contains O name out))
    ]

-- gates
driven_net : (seed size targets : ℕ) (g : NamedGate) → IsGateOf seed size targets g → Contains (names (drawn_netlist seed size targets)) g.out
driven_net seed size targets g (kept j below free) = signal_net seed size targets (INPUTS + j) (omega arith)
driven_net seed size targets g (port m below) = output_net seed size targets m below

read_net : (seed size targets : ℕ) (g : NamedGate) → IsGateOf seed size targets g → (name : List ℕ) → Reads g name → Contains (names (drawn_netlist seed size targets)) name
read_net seed size targets g (kept j below free) name reads =
    let found = drawn_reads seed size targets j name reads in
    subst (Contains (names (drawn_netlist seed size targets))) found.2 (signal_net seed size targets found.0 (omega (arith, found.1)))
read_net seed size targets g (port m below) name reads =
    let within = unread_below seed size m below in
    subst (Contains (names (drawn_netlist seed size targets))) (port_reads seed size targets m name reads)
    (signal_net seed size targets (INPUTS + get_or (unread_gates seed size) m 0) (omega (arith, within)))

two_fit : (k : ℕ) → FitsKind (numbered_kind k) 2
two_fit zero = omega arith
two_fit (suc zero) = omega arith
two_fit (suc (suc zero)) = omega arith
two_fit (suc (suc (suc zero))) = omega arith
two_fit (suc (suc (suc (suc zero)))) = omega arith
two_fit (suc (suc (suc (suc (suc zero))))) = omega arith
two_fit (suc (suc (suc (suc (suc (suc k)))))) = omega arith

fitting : (seed size targets : ℕ) (g : NamedGate) → IsGateOf seed size targets g → FitsKind g.kind (length g.terms)
fitting seed size targets g (kept j below free) = two_fit (draw seed (3 * j) 6)
fitting seed size targets g (port m below) = refl

driven_once : (seed size targets : ℕ) → MayCut size targets → IsDistinct bytes_eq (map (λ (g : NamedGate). g.out) (drawn_netlist seed size targets).gates)
unfolding drawn_netlist
driven_once seed size targets may =
    let unread = length (unread_gates seed size) in
    rw (
      map-append (λ (g : NamedGate). g.out) (map (drawn_gate seed size targets) (kept_gates size targets)) (map (port_gate seed size targets) (range_with_len 0 unread)),
      map-map (drawn_gate seed size targets) (λ (g : NamedGate). g.out) (kept_gates size targets),
      map-map (port_gate seed size targets) (λ (g : NamedGate). g.out) (range_with_len 0 unread),
    )
    (IsDistinct-append (map (λ j. signal_name size targets (INPUTS + j)) (kept_gates size targets)) (output_names seed size)
    (distinct_gates size targets (kept_gates size targets) may (kept_once size targets) (λ j c. (kept_is size targets j c).0))
    (distinct_outputs seed size may.few_gates)
    (λ name c d.
    let j = map-Contains (λ j. signal_name size targets (INPUTS + j)) (kept_gates size targets) name c in
    let m = from_image output_name unread name d in
    signal_no_output size targets (INPUTS + j.0) m.0 (j.2 ∙ sym m.2)))

no_input_driven : (seed size targets k : ℕ) → MayCut size targets → k < INPUTS → (g : NamedGate) → IsGateOf seed size targets g → g.out ≡ input_name k → ⊥
no_input_driven seed size targets k may low g (kept j below free) e =
    let same = signal_once size targets (INPUTS + j) k may (omega arith) (omega arith) (e ∙ sym (signal_low size targets k low)) in
    omega (arith, same)
no_input_driven seed size targets k may low g (port m below) e = input_no_output k m (sym e)

inputs_free : (seed size targets : ℕ) → MayCut size targets → (name : List ℕ) → Contains (drawn_netlist seed size targets).inputs name → IsDriven (drawn_netlist seed size targets) name → ⊥
inputs_free seed size targets may name input driven =
    let found = input_is seed size targets name input in
    no_input_driven seed size targets found.0 may found.1 driven.0 (gate_is seed size targets driven.0 driven.1) (driven.2 ∙ sym found.2)

undriven_target : (seed size targets : ℕ) → MayCut size targets → (name : List ℕ) → Contains (names (drawn_netlist seed size targets)) name → (IsSignal (drawn_netlist seed size targets) name → ⊥) → IsTrue (is_target_text name)
undriven_target seed size targets may name net none =
    elim (signal_or_target seed size targets name net) [
      | inl there ↦ absurd (none there)
      | inr found ↦
          let few = may.few_targets in
          subst (λ (n : List ℕ). IsTrue (is_target_text n)) (sym found.2) (is_target_text-name found.0 (omega (arith, found.1, few)))
    ]

filtered_inputs : (seed size targets : ℕ) → (drawn_netlist seed size targets).inputs ≡ filter (has (drawn_netlist seed size targets).inputs) (drawn_netlist seed size targets).ports
unfolding drawn_netlist
filtered_inputs seed size targets = inputs_filtered input_names (output_names seed size) (apart_ports seed size)

filtered_outputs : (seed size targets : ℕ) → (drawn_netlist seed size targets).outputs ≡ filter (has (drawn_netlist seed size targets).outputs) (drawn_netlist seed size targets).ports
unfolding drawn_netlist
filtered_outputs seed size targets = outputs_filtered input_names (output_names seed size) (apart_ports seed size)

ports_directed : (seed size targets : ℕ) (name : List ℕ) → Contains (drawn_netlist seed size targets).ports name → has (drawn_netlist seed size targets).inputs name ≡ not (has (drawn_netlist seed size targets).outputs name)
unfolding drawn_netlist
ports_directed seed size targets name c = directed input_names (output_names seed size) (apart_ports seed size) name c

pub checked : (seed size targets : ℕ) → MayCut size targets → IsChecked (drawn_netlist seed size targets)
checked seed size targets may = record {
  distinct = distinct_names seed size targets may;
  inputs = filtered_inputs seed size targets;
  outputs = filtered_outputs seed size targets;
  directed = ports_directed seed size targets;
  driven_nets = λ g c. driven_net seed size targets g (gate_is seed size targets g c);
  read_nets = λ g c. read_net seed size targets g (gate_is seed size targets g c);
  arities = λ g c. fitting seed size targets g (gate_is seed size targets g c);
  driven_once = driven_once seed size targets may;
  inputs_free = inputs_free seed size targets may;
  undriven = undriven_target seed size targets may;
  loop_free = IsLoopFree-drawn seed size targets may;
}
