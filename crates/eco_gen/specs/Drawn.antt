-- What is drawn for a seed and a number of gates: the netlist, of which targets cut some gates loose, and the weights.
use Rattle.std.specs.Prelude.{ℕ, ◌+◌, ◌-◌, ◌*◌, ◌/◌, ◌%◌, ◌==◌, ◌||◌, Bool, not, nat_lt, List, [], ◌∷◌, ◌++◌, length, filter, map, slice_index, codes, Option, None, Some, is_none, if◌then◌else◌}
use Rattle.std.specs.Fmt.{decimal}
use Rattle.std.specs.List.{list_any, position, range_with_len, slice_index_or}
use Rattle.rand_core.specs.Pcg32Seed.{pcg32_seed}
use Rattle.rand_pcg.specs.Lcg.{advance}
use Rattle.rand_pcg.specs.Pcg.{multiplier_64, pcg32, pcg32_of_seed}
use Rattle.eco_meaning.specs.declared.kind.Kind.{Kind}
use Rattle.eco_meaning.specs.declared.kind.Kind.TheVariants.{And, Nand, Or, Nor, Xor, Xnor, Buf}
use Rattle.eco_meaning.specs.declared.name.Operand.TheVariants.{Named}
use Rattle.eco_meaning.specs.Circuit.{Circuit, NamedGate}
use Rattle.eco_meaning.specs.Cost.{Weights}
use Rattle.eco_gen.specs.declared.TheConstants.{INPUTS}

-- the word of the generator PCG (XSH RR 64/32) with this number, counted from 0
unfoldable pub word : ℕ → ℕ → ℕ
word seed k = (pcg32 (advance 64 multiplier_64 k (pcg32_of_seed (pcg32_seed 16 seed)))).0

-- the draw of this number: one of the numbers below a bound
abbrev pub draw : ℕ → ℕ → ℕ → ℕ
draw seed k bound = word seed k % bound

-- the kinds that gates are drawn from, in the order of their numbers
abbrev pub kinds : List Kind
kinds = And ∷ Nand ∷ Or ∷ Nor ∷ Xor ∷ Xnor ∷ []

abbrev pub numbered_kind : ℕ → Kind
numbered_kind k = slice_index_or kinds k And

-- Signals are numbered: first the inputs, then the outputs of the gates. Each gate has three draws, for its kind and for
-- the two signals that it reads, which come before its own.
abbrev pub gate_kind : ℕ → ℕ → Kind
gate_kind seed j = numbered_kind (draw seed (3 * j) 6)

abbrev pub first_signal : ℕ → ℕ → ℕ
first_signal seed j = draw seed (3 * j + 1) (INPUTS + j)

abbrev pub second_signal : ℕ → ℕ → ℕ
second_signal seed j = draw seed (3 * j + 2) (INPUTS + j)

-- whether gate h reads the output of gate j
abbrev pub reads_gate : ℕ → ℕ → ℕ → Bool
reads_gate seed j h = first_signal seed h == INPUTS + j || second_signal seed h == INPUTS + j

-- whether one of the first gates does
unfoldable pub is_read : ℕ → ℕ → ℕ → Bool
is_read seed size j = list_any (reads_gate seed j) (range_with_len 0 size)

-- the gates whose outputs no gate reads
unfoldable pub unread_gates : ℕ → ℕ → List ℕ
unread_gates seed size = filter (λ j. not (is_read seed size j)) (range_with_len 0 size)

-- the gate that a target cuts loose, and the target that cuts a gate, where there is one
abbrev pub cut_gate : ℕ → ℕ → ℕ → ℕ
cut_gate size targets i = i * size / targets

unfoldable pub target_at : ℕ → ℕ → ℕ → Option ℕ
target_at size targets j = position (λ i. cut_gate size targets i == j) (range_with_len 0 targets)

abbrev pub is_kept : ℕ → ℕ → ℕ → Bool
is_kept size targets j = is_none (target_at size targets j)

-- names
abbrev pub input_name : ℕ → List ℕ
input_name k = codes "x" ++ decimal k

abbrev pub output_name : ℕ → List ℕ
output_name m = codes "y" ++ decimal m

abbrev pub gate_name : ℕ → List ℕ
gate_name j = codes "g" ++ decimal j

abbrev pub target_name : ℕ → List ℕ
target_name i = codes "t_" ++ decimal i

-- the name of the net behind a gate: where the gate is cut, it is the target's
abbrev pub name_behind : Option ℕ → ℕ → List ℕ
name_behind None j = gate_name j
name_behind (Some i) j = target_name i

-- the name of a signal in the netlist with this many targets
unfoldable pub signal_name : ℕ → ℕ → ℕ → List ℕ
signal_name size targets k =
    if nat_lt k INPUTS then input_name k else name_behind (target_at size targets (k - INPUTS)) (k - INPUTS)

-- gate j, and the gate that leads to the output port m from the unread gate of this number
abbrev pub drawn_gate : ℕ → ℕ → ℕ → ℕ → NamedGate
drawn_gate seed size targets j = record {
  kind = gate_kind seed j;
  out = signal_name size targets (INPUTS + j);
  terms = Named (signal_name size targets (first_signal seed j)) ∷ Named (signal_name size targets (second_signal seed j)) ∷ [];
}

abbrev pub port_gate : ℕ → ℕ → ℕ → ℕ → NamedGate
port_gate seed size targets m = record {
  kind = Buf;
  out = output_name m;
  terms = Named (signal_name size targets (INPUTS + slice_index (unread_gates seed size) m)) ∷ [];
}

abbrev pub input_names : List (List ℕ)
input_names = map input_name (range_with_len 0 INPUTS)

abbrev pub output_names : ℕ → ℕ → List (List ℕ)
output_names seed size = map output_name (range_with_len 0 (length (unread_gates seed size)))

-- the gates that aren't cut
unfoldable pub kept_gates : ℕ → ℕ → List ℕ
kept_gates size targets = filter (is_kept size targets) (range_with_len 0 size)

-- the drawn netlist of which this many targets cut gates loose: without a target it is whole
unfoldable pub drawn_netlist : ℕ → ℕ → ℕ → Circuit
drawn_netlist seed size targets = record {
  title = codes "gen";
  ports = input_names ++ output_names seed size;
  inputs = input_names;
  outputs = output_names seed size;
  wires = map (λ j. signal_name size targets (INPUTS + j)) (range_with_len 0 size);
  gates = map (drawn_gate seed size targets) (kept_gates size targets)
      ++ map (port_gate seed size targets) (range_with_len 0 (length (unread_gates seed size)));
}

-- the weight of this number: the weights' draws come behind those of the gates
abbrev pub drawn_weight : ℕ → ℕ → ℕ → ℕ
drawn_weight seed size k = draw seed (3 * size + k) 100 + 1

-- the weights of the inputs, then those of the gates that aren't cut
unfoldable pub drawn_weights : ℕ → ℕ → ℕ → Weights
drawn_weights seed size targets =
    map (λ k. (input_name k, drawn_weight seed size k)) (range_with_len 0 INPUTS)
    ++ map (λ k. (gate_name (slice_index (kept_gates size targets) k), drawn_weight seed size (INPUTS + k)))
    (range_with_len 0 (length (kept_gates size targets)))
