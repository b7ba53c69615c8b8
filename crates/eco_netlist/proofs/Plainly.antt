-- Declarations that spell out a checked netlist as it is have no error and stand for that netlist, where their rule
-- allows its targets.
use Rattle.std.proofs.Common.{◌≡◌, ℕ, inl, inr, true, false, ◌||◌, ◌&&◌, List, [], ◌∷◌, ◌++◌, length, drop, refl, sym, ◌∙◌, ap, subst}
use Rattle.std.specs.List.{Contains, filter, flat_map, fold, list_any, IsDistinct}
use Rattle.std.specs.Str.{bytes_eq}
use Rattle.std.proofs.lemmas.Bool.{and_parts, or_cases, or_from as or_false, or_left, or_right, and_from, not-true, not_from_false, not_from_true, false_from_ne_true, both_ways}
use Rattle.std.proofs.lemmas.List.{drop_at}
use Rattle.std.proofs.lemmas.List.Elements.{Contains-append_left, Contains-append_right, Contains-append_cases}
use Rattle.std.proofs.lemmas.List.Folds.{Any-from_list_any, list_any_at}
use Rattle.std.proofs.lemmas.List.Sums.{fold-append}
use Rattle.std.proofs.lemmas.Slice.Eq.{bytes_eq-Decides}
use Rattle.eco_netlist.proofs.NetLemmas.{fold_fresh}
use Rattle.eco_lists.proofs.Members.{Contains_cases, Contains_first, Contains_later, Contains_none, filter-Contains}
use Rattle.eco_meaning.specs.declared.name.Operand.{Operand}
use Rattle.eco_meaning.specs.declared.name.Operand.TheVariants.{Zero, One, Named}
use Rattle.eco_meaning.specs.Names.{has}
use Rattle.eco_meaning.specs.Circuit.{Circuit, NamedGate, names, Reads, IsDriven, IsSignal, IsTarget, IsLoopFree}
use Rattle.eco_netlist.specs.declared.draft.TargetRule.{TargetRule}
use Rattle.eco_netlist.specs.Draft.{Declared, allows, reads_name, is_driven, is_read, is_mentioned, is_declared, is_target, operand_names, gate_names, with_name, nets_of, made}
use Rattle.eco_netlist.specs.Refusals.{is_declared_twice, is_undeclared_port, is_no_port, is_driven_input, is_undriven, IsWellFormed}
use Rattle.eco_netlist.specs.Netlists.{IsChecked}
use Rattle.eco_netlist.specs.Plain.{as_declared}
use Rattle.eco_netlist.proofs.NameSets.{filter_all, Contains-from_has, has-from_Contains, has-from_absent, absent_from_has, distinct_front, distinct_back, distinct_apart, distinct-filter, once, once_by, operand_named}
use Rattle.eco_netlist.proofs.SplicedLoops.{port_cases}

-- the rule allows targets, or the netlist has none
abbrev pub Allows : TargetRule → Circuit → Type 0
Allows rule n = (name : List ℕ) → IsTarget n name → allows rule ≡ true

-- the tests for driven and read nets, and what they test
pub driven_from_test : (d : Declared) (name : List ℕ) → is_driven d name ≡ true → IsDriven (as_declared d) name
driven_from_test d name e =
    let found = Any-from_list_any (λ (g : NamedGate). bytes_eq name g.out) d.gates e in
    (found.1, (found.0, found.2, found.3), sym ((bytes_eq-Decides name found.1.out).0 found.4))

pub test_from_driven : (d : Declared) (name : List ℕ) → IsDriven (as_declared d) name → is_driven d name ≡ true
test_from_driven d name (g, within, out) =
    list_any_at (λ (h : NamedGate). bytes_eq name h.out) d.gates within.0 g within.1
    (rw within.2 ((bytes_eq-Decides name g.out).1 (sym out)))

named_from_test : (name : List ℕ) (t : Operand) → reads_name name t ≡ true → t ≡ Named name
named_from_test name Zero e = cc
named_from_test name One e = cc
named_from_test name (Named other) e = ap Named (sym ((bytes_eq-Decides name other).0 e))

reader_from_test : (d : Declared) (name : List ℕ) → is_read d name ≡ true → (g : NamedGate) × Contains d.gates g × Reads g name
reader_from_test d name e =
    let found = Any-from_list_any (λ (g : NamedGate). list_any (reads_name name) g.terms) d.gates e in
    let term = Any-from_list_any (reads_name name) found.1.terms found.4 in
    (found.1, (found.0, found.2, found.3), subst (λ t. Contains found.1.terms t) (named_from_test name term.1 term.4) (term.0, term.2, term.3))

-- an input or an output is a port
pub input_is_port : (n : Circuit) → IsChecked n → (name : List ℕ) → Contains n.inputs name → Contains n.ports name
input_is_port n checked name c =
    (filter-Contains (has n.inputs) n.ports name (subst (λ l. Contains l name) checked.inputs c)).0

pub output_is_port : (n : Circuit) → IsChecked n → (name : List ℕ) → Contains n.outputs name → Contains n.ports name
output_is_port n checked name c =
    (filter-Contains (has n.outputs) n.ports name (subst (λ l. Contains l name) checked.outputs c)).0

-- a net that is mentioned or a wire, and neither an input nor driven, is a target
target_passes : (rule : TargetRule) (d : Declared) → IsChecked (as_declared d) → Allows rule (as_declared d) → (name : List ℕ) → Contains (names (as_declared d)) name → (is_declared d name || is_mentioned d name) ≡ true → has d.inputs name ≡ false → is_driven d name ≡ false → is_target rule d name ≡ true
target_passes rule d checked allowed name net said no_input no_driver =
    let free : IsSignal (as_declared d) name → ⊥ = λ signal. elim signal [
      | inl input ↦ absent_from_has d.inputs name no_input input
      | inr driven ↦ both_ways (is_driven d name) no_driver (test_from_driven d name driven)
    ] in
    let target : IsTarget (as_declared d) name = record { net = net; free = free } in
    and_from _ _ (and_from _ _ (and_from _ _ (and_from _ _ (allowed name target) (checked.undriven name net free)) said) (not_from_false _ no_input)) (not_from_false _ no_driver)

-- each wire is mentioned or a target
wire_passes : (rule : TargetRule) (d : Declared) → IsChecked (as_declared d) → Allows rule (as_declared d) → (wire : List ℕ) → Contains d.wires wire → (is_mentioned d wire || is_target rule d wire) ≡ true
wire_passes rule d checked allowed wire c =
    elim (is_driven d wire) as (λ b. is_driven d wire ≡ b → (is_mentioned d wire || is_target rule d wire) ≡ true) [
      | true ↦ λ e. or_left _ _ (or_left _ _ e)
      | false ↦ λ e.
          let no_input = has-from_absent d.inputs wire (λ input. distinct_apart d.header d.wires checked.distinct wire (input_is_port (as_declared d) checked wire input) c) in
          let said : (is_declared d wire || is_mentioned d wire) ≡ true = or_left _ _ (or_right _ _ (has-from_Contains d.wires wire c)) in
          or_right _ _ (target_passes rule d checked allowed wire (Contains-append_right d.header d.wires wire c) said no_input e)
    ] refl

-- names that are there already
fold_known : (names others : List (List ℕ)) → ((name : List ℕ) → Contains others name → Contains names name) → fold with_name names others ≡ names
fold_known names [] h = refl
fold_known names (o ∷ os) h =
    rw (has-from_Contains names o (h o (Contains_first o os))) (fold_known names os (λ name c. h name (Contains_later o name os c)))

pub Contains-flat_map : {X Y : Type 0} (f : X → List Y) (xs : List X) (y : Y) → Contains (flat_map f xs) y → (x : X) × Contains xs x × Contains (f x) y
Contains-flat_map f [] y c = absurd (Contains_none y c)
Contains-flat_map f (x ∷ xs) y c =
    elim (Contains-append_cases (f x) (flat_map f xs) y c) [
      | inl here ↦ (x, Contains_first x xs, here)
      | inr later ↦ let rest = Contains-flat_map f xs y later in (rest.0, Contains_later x rest.0 xs rest.1, rest.2)
    ]

mentioned_net : (n : Circuit) → IsChecked n → (name : List ℕ) → Contains (flat_map gate_names n.gates) name → Contains (names n) name
mentioned_net n checked name c =
    let found = Contains-flat_map gate_names n.gates name c in
    elim (Contains_cases found.0.out name (flat_map operand_names found.0.terms) found.2) [
      | inl out ↦ subst (λ x. Contains (names n) x) out (checked.driven_nets found.0 found.1)
      | inr read ↦
          let term = Contains-flat_map operand_names found.0.terms name read in
          checked.read_nets found.0 found.1 name (subst (λ t. Contains found.0.terms t) (operand_named term.0 name term.2) term.1)
    ]

-- the nets are the ports, then the wires
nets_of_plain : (rule : TargetRule) (d : Declared) → IsChecked (as_declared d) → Allows rule (as_declared d) → nets_of rule d ≡ d.header ++ d.wires
nets_of_plain rule d checked allowed =
    let kept : filter (λ wire. is_mentioned d wire || is_target rule d wire) d.wires ≡ d.wires = filter_all (λ wire. is_mentioned d wire || is_target rule d wire) d.wires (wire_passes rule d checked allowed) in
    rw kept
    (fold-append with_name d.header d.wires (flat_map gate_names d.gates)
    ∙ ap (λ l. fold with_name l (flat_map gate_names d.gates)) (fold_fresh d.header d.wires checked.distinct)
    ∙ fold_known (d.header ++ d.wires) (flat_map gate_names d.gates) (mentioned_net (as_declared d) checked))

same_parts : (n : Circuit) (inputs outputs wires : List (List ℕ)) → inputs ≡ n.inputs → outputs ≡ n.outputs → wires ≡ n.wires → record n { inputs = inputs; outputs = outputs; wires = wires } ≡ n
same_parts n inputs outputs wires i o w = rw (i, o, w) refl

-- these declarations stand for the netlist that they spell out
pub made_plain : (rule : TargetRule) (d : Declared) → IsChecked (as_declared d) → Allows rule (as_declared d) → made rule d ≡ as_declared d
made_plain rule d checked allowed =
    same_parts (as_declared d) _ _ _ (sym checked.inputs) (sym checked.outputs)
    (ap (drop (length d.header)) (nets_of_plain rule d checked allowed) ∙ drop_at d.header d.wires (length d.header) refl)

-- no name has an error
well_declared_once : (rule : TargetRule) (d : Declared) → IsChecked (as_declared d) → (name : List ℕ) → is_declared_twice d name ≡ false
well_declared_once rule d checked name =
    let header = distinct_front d.header d.wires checked.distinct in
    let inputs = subst (λ l. IsDistinct bytes_eq l) (sym checked.inputs) (distinct-filter (has d.inputs) d.header header) in
    let outputs = subst (λ l. IsDistinct bytes_eq l) (sym checked.outputs) (distinct-filter (has d.outputs) d.header header) in
    let both : (has d.inputs name && has d.outputs name) ≡ false = false_from_ne_true _ (λ e.
    let parts = and_parts (has d.inputs name) (has d.outputs name) e in
    let port = input_is_port (as_declared d) checked name (Contains-from_has d.inputs name parts.0) in
    both_ways (has d.inputs name) (checked.directed name port ∙ not_from_true _ parts.1) parts.0) in
    or_false _ _ (or_false _ _ (or_false _ _ (or_false _ _ (once d.header name header) (once d.inputs name inputs)) (once d.outputs name outputs)) both)
    (once d.wires name (distinct_back d.header d.wires checked.distinct))

well_declared_ports : (d : Declared) → IsChecked (as_declared d) → (name : List ℕ) → is_undeclared_port d name ≡ false
well_declared_ports d checked name = false_from_ne_true _ (λ e.
    let parts = and_parts _ _ e in
    let first = and_parts _ _ parts.0 in
    elim (port_cases (as_declared d) checked name (Contains-from_has d.header name first.0)) [
      | inl input ↦ absent_from_has d.inputs name (not-true _ first.1) input
      | inr output ↦ absent_from_has d.outputs name (not-true _ parts.1) output
    ])

well_declared_directions : (d : Declared) → IsChecked (as_declared d) → (name : List ℕ) → is_no_port d name ≡ false
well_declared_directions d checked name = false_from_ne_true _ (λ e.
    let parts = and_parts _ _ e in
    let absent = absent_from_has d.header name (not-true _ parts.1) in
    elim (or_cases _ _ parts.0) [
      | inl input ↦ absent (input_is_port (as_declared d) checked name (Contains-from_has d.inputs name input))
      | inr output ↦ absent (output_is_port (as_declared d) checked name (Contains-from_has d.outputs name output))
    ])

well_declared_inputs : (d : Declared) → IsChecked (as_declared d) → (name : List ℕ) → is_driven_input d name ≡ false
well_declared_inputs d checked name = false_from_ne_true _ (λ e.
    let parts = and_parts _ _ e in
    checked.inputs_free name (Contains-from_has d.inputs name parts.0) (driven_from_test d name parts.1))

well_declared_nets : (rule : TargetRule) (d : Declared) → IsChecked (as_declared d) → Allows rule (as_declared d) → (name : List ℕ) → is_undriven rule d name ≡ false
well_declared_nets rule d checked allowed name = false_from_ne_true _ (λ e.
    let parts = and_parts _ _ e in
    let second = and_parts _ _ parts.0 in
    let third = and_parts _ _ second.0 in
    let no_input = not-true _ third.1 in
    let no_driver = not-true _ second.1 in
    elim (or_cases _ _ third.0) [
      | inl output ↦
          let within = Contains-from_has d.outputs name output in
          let net = Contains-append_left d.header d.wires name (output_is_port (as_declared d) checked name within) in
          let said : (is_declared d name || is_mentioned d name) ≡ true = or_left _ _ (or_left _ _ (or_right _ _ output)) in
          both_ways (is_target rule d name) (not-true _ parts.1) (target_passes rule d checked allowed name net said no_input no_driver)
      | inr read ↦
          let reader = reader_from_test d name read in
          let said : (is_declared d name || is_mentioned d name) ≡ true = or_right _ _ (or_right _ _ read) in
          both_ways (is_target rule d name) (not-true _ parts.1) (target_passes rule d checked allowed name (checked.read_nets reader.0 reader.1 name reader.2) said no_input no_driver)
    ])

pub IsWellFormed-plain : (rule : TargetRule) (d : Declared) → IsChecked (as_declared d) → Allows rule (as_declared d) → IsWellFormed rule d
IsWellFormed-plain rule d checked allowed = record {
  declared = record {
    declared_once = well_declared_once rule d checked;
    ports_declared = well_declared_ports d checked;
    only_ports = well_declared_directions d checked;
    inputs_free = well_declared_inputs d checked;
    driven_once = λ name. once_by (λ (g : NamedGate). g.out) d.gates name checked.driven_once;
    driven = well_declared_nets rule d checked allowed;
  };
  loop_free = subst (λ n. IsLoopFree n) (sym (made_plain rule d checked allowed)) checked.loop_free;
}
