-- The targets of a drawn netlist are those that cut a gate.
use Rattle.std.proofs.Common.{◌≡◌, ℕ, ◌+◌, ◌-◌, ◌<◌, ◌≤◌, ◌⊎◌, inl, inr, true, List, [], ◌∷◌, Some, None, Option, length, map, refl, sym, ◌∙◌, ap, subst, arith}
use Rattle.std.specs.List.{range_with_len, Contains}
use Rattle.std.proofs.lemmas.Bool.Decides.{nat_tests}
use Rattle.std.proofs.lemmas.Bool.{cases_lt}
use Rattle.std.proofs.lemmas.Fmt.{decimal_digit}
use Rattle.eco_meaning.specs.Circuit.{NamedGate, names, IsSignal, IsTarget}
use Rattle.eco_meaning.specs.Names.{is_target_text, target_number}
use Rattle.eco_gen.specs.declared.TheConstants.{INPUTS}
use Rattle.eco_gen.specs.Drawn.{cut_gate, target_at, unread_gates, input_name, output_name, target_name, name_behind, signal_name, drawn_gate, port_gate, drawn_netlist}
use Rattle.eco_gen.proofs.Cuts.{cut_within, target_of_cut, target_cuts}
use Rattle.eco_gen.proofs.Names.{signal_low, signal_high, letter}
use Rattle.eco_gen.proofs.Ranges.{image_in, from_image}
use Rattle.eco_gen.proofs.Structure.{IsGateOf, kept, port, gate_is, kept_gate_in, port_gate_in, IsNetOf, signal, output, net_is, signal_net}

-- the text of a target's name
is_target_text-digit : (i : ℕ) → i < 8 → is_target_text (116 ∷ 95 ∷ (48 + i) ∷ []) ≡ true
is_target_text-digit i lt = grind (arith, nat_tests)

pub is_target_text-name : (i : ℕ) → i < 8 → is_target_text (target_name i) ≡ true
is_target_text-name i lt = rw (decimal_digit i (omega arith)) (is_target_text-digit i lt)

pub target_number-name : (i : ℕ) → i < 8 → target_number (target_name i) ≡ i
target_number-name i lt = rw (decimal_digit i (omega arith)) (omega arith)

-- the input names are those of the first signals
pub input_in : (seed size targets k : ℕ) → k < INPUTS → Contains (drawn_netlist seed size targets).inputs (signal_name size targets k)
unfolding drawn_netlist
input_in seed size targets k low = subst (Contains (map input_name (range_with_len 0 INPUTS))) (sym (signal_low size targets k low)) (image_in input_name INPUTS k low)

pub input_is : (seed size targets : ℕ) (name : List ℕ) → Contains (drawn_netlist seed size targets).inputs name → (k : ℕ) × (k < INPUTS) × (input_name k ≡ name)
unfolding drawn_netlist
input_is seed size targets name c = from_image input_name INPUTS name c

pub input_of : (seed size targets k : ℕ) → k < INPUTS → Contains (drawn_netlist seed size targets).inputs (input_name k)
unfolding drawn_netlist
input_of seed size targets k low = image_in input_name INPUTS k low

pub output_is : (seed size targets : ℕ) (name : List ℕ) → Contains (drawn_netlist seed size targets).outputs name → (m : ℕ) × (m < length (unread_gates seed size)) × (output_name m ≡ name)
unfolding drawn_netlist
output_is seed size targets name c = from_image output_name (length (unread_gates seed size)) name c

-- each net is a signal, or a target cuts the gate before it
behind_cases : (seed size targets j : ℕ) (o : Option ℕ) → target_at size targets j ≡ o → j < size → (name : List ℕ) → name ≡ name_behind o j → signal_name size targets (INPUTS + j) ≡ name → IsSignal (drawn_netlist seed size targets) name ⊎ ((i : ℕ) × (i < targets) × (name ≡ target_name i))
behind_cases seed size targets j None e below name is at = inl (inr (drawn_gate seed size targets j, kept_gate_in seed size targets j below e, at))
behind_cases seed size targets j (Some i) e below name is at = inr (i, (target_cuts size targets j i e).0, is)

signal_cases : (seed size targets k : ℕ) → k < INPUTS + size → IsSignal (drawn_netlist seed size targets) (signal_name size targets k) ⊎ ((i : ℕ) × (i < targets) × (signal_name size targets k ≡ target_name i))
signal_cases seed size targets k below =
    elim (cases_lt k INPUTS) [
      | inl low ↦ inl (inl (input_in seed size targets k low))
      | inr high ↦
          let sum : INPUTS + (k - INPUTS) ≡ k = omega arith in
          subst (λ n. IsSignal (drawn_netlist seed size targets) (signal_name size targets n) ⊎ ((i : ℕ) × (i < targets) × (signal_name size targets n ≡ target_name i))) sum
          (behind_cases seed size targets (k - INPUTS) (target_at size targets (k - INPUTS)) refl (omega arith) (signal_name size targets (INPUTS + (k - INPUTS))) (signal_high size targets (k - INPUTS)) refl)
    ]

net_cases : (seed size targets : ℕ) (name : List ℕ) → IsNetOf seed size targets name → IsSignal (drawn_netlist seed size targets) name ⊎ ((i : ℕ) × (i < targets) × (name ≡ target_name i))
net_cases seed size targets name (signal k below) = signal_cases seed size targets k below
net_cases seed size targets name (output m below) = inl (inr (port_gate seed size targets m, port_gate_in seed size targets m below, refl))

pub signal_or_target : (seed size targets : ℕ) (name : List ℕ) → Contains (names (drawn_netlist seed size targets)) name → IsSignal (drawn_netlist seed size targets) name ⊎ ((i : ℕ) × (i < targets) × (name ≡ target_name i))
signal_or_target seed size targets name c = net_cases seed size targets name (net_is seed size targets name c)

-- the name of a target is that of the net behind the gate that it cuts
pub target_is_net : (size targets i : ℕ) → targets ≤ size → i < targets → signal_name size targets (INPUTS + cut_gate size targets i) ≡ target_name i
target_is_net size targets i room lt =
    signal_high size targets (cut_gate size targets i) ∙ ap (λ o. name_behind o (cut_gate size targets i)) (target_of_cut size targets i room lt)

-- and no gate drives it
behind_free : (size targets j i : ℕ) → target_at size targets j ≡ None → signal_name size targets (INPUTS + j) ≡ target_name i → ⊥
behind_free size targets j i free e =
    let same : 103 ≡ 116 = ap letter (sym (signal_high size targets j ∙ ap (λ o. name_behind o j) free) ∙ e) in
    omega (arith, same)

gate_not_target : (seed size targets i : ℕ) (g : NamedGate) → IsGateOf seed size targets g → g.out ≡ target_name i → ⊥
gate_not_target seed size targets i g (kept j below free) e = behind_free size targets j i free e
gate_not_target seed size targets i g (port m below) e = let same : 121 ≡ 116 = ap letter e in omega (arith, same)

pub target_free : (seed size targets i : ℕ) → IsSignal (drawn_netlist seed size targets) (target_name i) → ⊥
target_free seed size targets i (inl input) =
    let found = input_is seed size targets (target_name i) input in
    let same : 120 ≡ 116 = ap letter found.2 in
    omega (arith, same)
target_free seed size targets i (inr driven) = gate_not_target seed size targets i driven.0 (gate_is seed size targets driven.0 driven.1) driven.2

pub is_target : (seed size targets i : ℕ) → targets ≤ size → i < targets → IsTarget (drawn_netlist seed size targets) (target_name i)
is_target seed size targets i room lt = record {
  net =
      let within = cut_within size targets i room lt in
      subst (Contains (names (drawn_netlist seed size targets))) (target_is_net size targets i room lt)
      (signal_net seed size targets (INPUTS + cut_gate size targets i) (omega (arith, within)));
  free = target_free seed size targets i;
}

pub target_named : (seed size targets : ℕ) (name : List ℕ) → IsTarget (drawn_netlist seed size targets) name → (i : ℕ) × (i < targets) × (name ≡ target_name i)
target_named seed size targets name is =
    elim (signal_or_target seed size targets name is.net) [
      | inl there ↦ absurd (is.free there)
      | inr found ↦ found
    ]
