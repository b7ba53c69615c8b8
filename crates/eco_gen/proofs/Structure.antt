-- The gates and nets of a drawn netlist.
use Rattle.std.proofs.Common.{◌≡◌, ◌≢◌, ℕ, zero, suc, ◌+◌, ◌-◌, ◌<◌, ◌≤◌, inl, inr, Bool, true, false, not, cond, List, [], ◌∷◌, ◌++◌, Some, None, Option, length, get_or, map, refl, sym, ◌∙◌, ap, subst, arith, mod-lt}
use Rattle.std.specs.Prelude.{is_none}
use Rattle.std.specs.List.{filter, range_with_len, AllPairs, Contains}
use Rattle.std.proofs.lemmas.List.Elements.{Contains-append_left, Contains-append_right, Contains-append_cases}
use Rattle.std.proofs.lemmas.Bool.{cases_lt}
use Rattle.std.proofs.lemmas.List.Kept.{AllPairs-filter}
use Rattle.eco_lists.proofs.Members.{Contains_cases, Contains_none, Contains-map, map-Contains, Contains-filter, filter-Contains}
use Rattle.eco_lists.proofs.Places.{any_default}
use Rattle.eco_meaning.specs.declared.name.Operand.TheVariants.{Named}
use Rattle.eco_meaning.specs.Circuit.{NamedGate, names, Reads}
use Rattle.eco_gen.specs.declared.TheConstants.{INPUTS}
use Rattle.eco_gen.specs.Drawn.{is_kept, is_read, target_at, kept_gates, unread_gates, input_name, output_name, input_names, output_names, signal_name, first_signal, second_signal, drawn_gate, port_gate, drawn_netlist}
use Rattle.eco_gen.proofs.Names.{signal_low}
use Rattle.eco_lists.proofs.Ranges.{member_of_range}
use Rattle.eco_gen.proofs.Ranges.{from_range, range_once, image_in, from_image}

-- the gates that aren't cut
pub kept_is : (size targets j : ℕ) → Contains (kept_gates size targets) j → (j < size) × (target_at size targets j ≡ None)
unfolding kept_gates
kept_is size targets j c =
    let found = filter-Contains (is_kept size targets) (range_with_len 0 size) j c in
    (from_range size j found.0, no_target (target_at size targets j) found.1)
  where
    no_target : (o : Option ℕ) → is_none o ≡ true → o ≡ None
    no_target None e = refl
    no_target (Some i) e = cc

pub is_kept_gate : (size targets j : ℕ) → j < size → target_at size targets j ≡ None → Contains (kept_gates size targets) j
unfolding kept_gates
is_kept_gate size targets j below free =
    Contains-filter (is_kept size targets) (range_with_len 0 size) j (member_of_range 0 size j (omega arith) (omega (arith, below))) (ap is_none free)

pub kept_once : (size targets : ℕ) → AllPairs (λ a b. a ≢ b) (kept_gates size targets)
unfolding kept_gates
kept_once size targets = AllPairs-filter (λ a b. a ≢ b) (is_kept size targets) (range_with_len 0 size) (range_once size)

pub kept_at : (size targets k : ℕ) → k < length (kept_gates size targets) → get_or (kept_gates size targets) k 0 < size
kept_at size targets k below =
    (kept_is size targets (get_or (kept_gates size targets) k 0) (k, below, any_default (kept_gates size targets) k (get_or (kept_gates size targets) k 0) 0 below)).0

-- there are no more of them, and no more unread gates, than gates
few_filtered : (p : ℕ → Bool) (a n : ℕ) → length (filter p (range_with_len a n)) ≤ n
few_filtered p a zero = omega arith
few_filtered p a (suc n) =
    elim (p a) as (λ b. length (cond b (a ∷ filter p (range_with_len (a + 1) n)) (filter p (range_with_len (a + 1) n))) ≤ suc n) [
      | true ↦ let rest = few_filtered p (a + 1) n in omega arith
      | false ↦ let rest = few_filtered p (a + 1) n in omega arith
    ]

pub few_kept : (size targets : ℕ) → length (kept_gates size targets) ≤ size
unfolding kept_gates
few_kept size targets = few_filtered (is_kept size targets) 0 size

pub few_unread : (seed size : ℕ) → length (unread_gates seed size) ≤ size
unfolding unread_gates
few_unread seed size = few_filtered (λ j. not (is_read seed size j)) 0 size

-- the gates that lead to ports begin at gates
pub unread_below : (seed size m : ℕ) → m < length (unread_gates seed size) → get_or (unread_gates seed size) m 0 < size
unfolding unread_gates
unread_below seed size m below =
    from_range size (get_or (unread_gates seed size) m 0)
    (filter-Contains (λ j. not (is_read seed size j)) (range_with_len 0 size) (get_or (unread_gates seed size) m 0) (m, below, any_default (unread_gates seed size) m (get_or (unread_gates seed size) m 0) 0 below)).0

-- what a gate reads comes before it
pub first_before : (seed j : ℕ) → first_signal seed j < INPUTS + j
first_before seed j = mod-lt _ (omega arith)

pub second_before : (seed j : ℕ) → second_signal seed j < INPUTS + j
second_before seed j = mod-lt _ (omega arith)

-- a gate of the netlist is a drawn one or leads to a port
pub data IsGateOf (seed size targets : ℕ) : NamedGate → Type 0 where
  kept : (j : ℕ) → j < size → target_at size targets j ≡ None → IsGateOf seed size targets (drawn_gate seed size targets j)
  port : (m : ℕ) → m < length (unread_gates seed size) → IsGateOf seed size targets (port_gate seed size targets m)

pub gate_is : (seed size targets : ℕ) (g : NamedGate) → Contains (drawn_netlist seed size targets).gates g → IsGateOf seed size targets g
unfolding drawn_netlist
gate_is seed size targets g c =
    elim (Contains-append_cases (map (drawn_gate seed size targets) (kept_gates size targets)) (map (port_gate seed size targets) (range_with_len 0 (length (unread_gates seed size)))) g c) [
      | inl front ↦
          let found = map-Contains (drawn_gate seed size targets) (kept_gates size targets) g front in
          let there = kept_is size targets found.0 found.1 in
          subst (IsGateOf seed size targets) found.2 (kept found.0 there.0 there.1)
      | inr back ↦
          let found = from_image (port_gate seed size targets) (length (unread_gates seed size)) g back in
          subst (IsGateOf seed size targets) found.2 (port found.0 found.1)
    ]

pub kept_gate_in : (seed size targets j : ℕ) → j < size → target_at size targets j ≡ None → Contains (drawn_netlist seed size targets).gates (drawn_gate seed size targets j)
unfolding drawn_netlist
kept_gate_in seed size targets j below free =
    Contains-append_left (map (drawn_gate seed size targets) (kept_gates size targets)) (map (port_gate seed size targets) (range_with_len 0 (length (unread_gates seed size)))) (drawn_gate seed size targets j)
    (Contains-map (drawn_gate seed size targets) (kept_gates size targets) j (is_kept_gate size targets j below free))

pub port_gate_in : (seed size targets m : ℕ) → m < length (unread_gates seed size) → Contains (drawn_netlist seed size targets).gates (port_gate seed size targets m)
unfolding drawn_netlist
port_gate_in seed size targets m below =
    Contains-append_right (map (drawn_gate seed size targets) (kept_gates size targets)) (map (port_gate seed size targets) (range_with_len 0 (length (unread_gates seed size)))) (port_gate seed size targets m)
    (image_in (port_gate seed size targets) (length (unread_gates seed size)) m below)

-- the nets: the signals and the output ports
pub signal_net : (seed size targets k : ℕ) → k < INPUTS + size → Contains (names (drawn_netlist seed size targets)) (signal_name size targets k)
unfolding drawn_netlist
signal_net seed size targets k below =
    elim (cases_lt k INPUTS) [
      | inl low ↦
          Contains-append_left (input_names ++ output_names seed size) (map (λ j. signal_name size targets (INPUTS + j)) (range_with_len 0 size)) (signal_name size targets k)
          (Contains-append_left input_names (output_names seed size) (signal_name size targets k)
          (subst (Contains input_names) (sym (signal_low size targets k low)) (image_in input_name INPUTS k low)))
      | inr high ↦
          let sum : INPUTS + (k - INPUTS) ≡ k = omega arith in
          Contains-append_right (input_names ++ output_names seed size) (map (λ j. signal_name size targets (INPUTS + j)) (range_with_len 0 size)) (signal_name size targets k)
          (subst (λ n. Contains (map (λ j. signal_name size targets (INPUTS + j)) (range_with_len 0 size)) (signal_name size targets n)) sum
          (image_in (λ j. signal_name size targets (INPUTS + j)) size (k - INPUTS) (omega arith)))
    ]

pub output_net : (seed size targets m : ℕ) → m < length (unread_gates seed size) → Contains (names (drawn_netlist seed size targets)) (output_name m)
unfolding drawn_netlist
output_net seed size targets m below =
    Contains-append_left (input_names ++ output_names seed size) (map (λ j. signal_name size targets (INPUTS + j)) (range_with_len 0 size)) (output_name m)
    (Contains-append_right input_names (output_names seed size) (output_name m) (image_in output_name (length (unread_gates seed size)) m below))

pub data IsNetOf (seed size targets : ℕ) : List ℕ → Type 0 where
  signal : (k : ℕ) → k < INPUTS + size → IsNetOf seed size targets (signal_name size targets k)
  output : (m : ℕ) → m < length (unread_gates seed size) → IsNetOf seed size targets (output_name m)

pub net_is : (seed size targets : ℕ) (name : List ℕ) → Contains (names (drawn_netlist seed size targets)) name → IsNetOf seed size targets name
unfolding drawn_netlist
net_is seed size targets name c =
    elim (Contains-append_cases (input_names ++ output_names seed size) (map (λ j. signal_name size targets (INPUTS + j)) (range_with_len 0 size)) name c) [
      | inl ports ↦ elim (Contains-append_cases input_names (output_names seed size) name ports) [
        | inl input ↦
            let found = from_image input_name INPUTS name input in
            subst (IsNetOf seed size targets) (signal_low size targets found.0 found.1 ∙ found.2) (signal found.0 (omega (arith, found.1)))
        | inr out ↦
            let found = from_image output_name (length (unread_gates seed size)) name out in
            subst (IsNetOf seed size targets) found.2 (output found.0 found.1)
      ]
      | inr wire ↦
          let found = from_image (λ j. signal_name size targets (INPUTS + j)) size name wire in
          subst (IsNetOf seed size targets) found.2 (signal (INPUTS + found.0) (omega (arith, found.1)))
    ]

-- what a gate reads: signals that come before it, and a gate before a port
pub drawn_reads : (seed size targets j : ℕ) (name : List ℕ) → Reads (drawn_gate seed size targets j) name → (k : ℕ) × (k < INPUTS + j) × (signal_name size targets k ≡ name)
drawn_reads seed size targets j name c =
    elim (Contains_cases (Named (signal_name size targets (first_signal seed j))) (Named name) (Named (signal_name size targets (second_signal seed j)) ∷ []) c) [
      | inl same ↦ (first_signal seed j, first_before seed j, cc same)
      | inr more ↦ elim (Contains_cases (Named (signal_name size targets (second_signal seed j))) (Named name) [] more) [
        | inl same ↦ (second_signal seed j, second_before seed j, cc same)
        | inr none ↦ absurd (Contains_none (Named name) none)
      ]
    ]

pub port_reads : (seed size targets m : ℕ) (name : List ℕ) → Reads (port_gate seed size targets m) name → signal_name size targets (INPUTS + get_or (unread_gates seed size) m 0) ≡ name
port_reads seed size targets m name c =
    elim (Contains_cases (Named (signal_name size targets (INPUTS + get_or (unread_gates seed size) m 0))) (Named name) [] c) [
      | inl same ↦ cc same
      | inr none ↦ absurd (Contains_none (Named name) none)
    ]
