-- A drawn netlist has no loop: each gate reads what comes before it.
use Rattle.std.proofs.Common.{ℕ, ◌+◌, ◌<◌, ◌≤◌, List, [], ◌∷◌, get_or, arith}
use Rattle.std.specs.List.{All, Contains}
use Rattle.std.proofs.lemmas.List.Elements.{All-head, All-tail}
use Rattle.eco_meaning.specs.Circuit.{NamedGate, IsReadBy, IsChain, IsLoop, IsLoopFree, last_of}
use Rattle.eco_gen.specs.declared.TheConstants.{INPUTS}
use Rattle.eco_gen.specs.Cutting.{MayCut}
use Rattle.eco_gen.specs.Drawn.{unread_gates, output_name, signal_name, drawn_gate, port_gate, drawn_netlist}
use Rattle.eco_gen.proofs.Names.{signal_once, signal_no_output}
use Rattle.eco_gen.proofs.Structure.{IsGateOf, kept, port, gate_is, drawn_reads, port_reads}

-- the places of gates: those to ports come last
data IsAt (seed size targets : ℕ) : NamedGate → ℕ → Type 0 where
  at_gate : (j : ℕ) → j < size → IsAt seed size targets (drawn_gate seed size targets j) j
  at_port : (m : ℕ) → IsAt seed size targets (port_gate seed size targets m) size

place_of_gate : (seed size targets : ℕ) (g : NamedGate) → IsGateOf seed size targets g → (r : ℕ) × IsAt seed size targets g r
place_of_gate seed size targets g (kept j below free) = (j, at_gate j below)
place_of_gate seed size targets g (port m below) = (size, at_port m)

-- a gate comes behind those whose outputs it reads
rises : (seed size targets : ℕ) (g h : NamedGate) (r s : ℕ) → MayCut size targets → IsAt seed size targets g r → IsAt seed size targets h s → IsReadBy g h → r < s
rises seed size targets g h r s may (at_gate i below) (at_gate j below') reads =
    let found = drawn_reads seed size targets j (signal_name size targets (INPUTS + i)) reads in
    let same = signal_once size targets found.0 (INPUTS + i) may (omega (arith, found.1, below')) (omega (arith, below)) found.2 in
    omega (arith, same, found.1)
rises seed size targets g h r s may (at_gate i below) (at_port m) reads = below
rises seed size targets g h r s may (at_port m) (at_gate j below) reads =
    let found = drawn_reads seed size targets j (output_name m) reads in
    absurd (signal_no_output size targets found.0 m found.2)
rises seed size targets g h r s may (at_port m) (at_port n) reads =
    absurd (signal_no_output size targets (INPUTS + get_or (unread_gates seed size) n 0) m (port_reads seed size targets n (output_name m) reads))

-- so places rise along a chain
chain_rises : (seed size targets : ℕ) (g : NamedGate) (r : ℕ) (gates : List NamedGate) → MayCut size targets → IsAt seed size targets g r → All (Contains (drawn_netlist seed size targets).gates) gates → IsChain IsReadBy g gates → (s : ℕ) × IsAt seed size targets (last_of g gates) s × (r ≤ s)
chain_rises seed size targets g r [] may at all chain = (r, at, omega arith)
chain_rises seed size targets g r (h ∷ gates) may at all chain =
    let next = place_of_gate seed size targets h (gate_is seed size targets h (All-head (Contains (drawn_netlist seed size targets).gates) h gates all)) in
    let more = chain_rises seed size targets h next.0 gates may next.1 (All-tail (Contains (drawn_netlist seed size targets).gates) h gates all) chain.1 in
    let step = rises seed size targets g h r next.0 may at next.1 chain.0 in
    (more.0, more.1, omega (arith, step, more.2))

no_circle : (seed size targets : ℕ) (loop : List NamedGate) → MayCut size targets → IsLoop (drawn_netlist seed size targets) loop → ⊥
no_circle seed size targets [] may loop = loop.circle
no_circle seed size targets (g ∷ gates) may loop =
    let at = place_of_gate seed size targets g (gate_is seed size targets g (All-head (Contains (drawn_netlist seed size targets).gates) g gates loop.members)) in
    let end = chain_rises seed size targets g at.0 gates may at.1 (All-tail (Contains (drawn_netlist seed size targets).gates) g gates loop.members) loop.circle.0 in
    let falls = rises seed size targets (last_of g gates) g end.0 at.0 may end.1 at.1 loop.circle.1 in
    omega (arith, end.2, falls)

pub IsLoopFree-drawn : (seed size targets : ℕ) → MayCut size targets → IsLoopFree (drawn_netlist seed size targets)
IsLoopFree-drawn seed size targets may loop is = no_circle seed size targets loop may is
