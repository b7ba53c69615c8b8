use Rattle.std.proofs.Common.{◌≡◌, ℕ, ◌<◌, length, take}
use Rattle.eco_netlist.specs.Tallies.{tally_at, with_gates}
use Rattle.eco_netlist.proofs.tally.note_gates.Given as goal

abbrev pub invariant-loop-gate : goal.invariant-loop-gate
invariant-loop-gate l = record {
  kept : length l.tallies ≡ length l.fn.tallies;
  noted : (net : ℕ) → net < length l.fn.tallies → tally_at l.tallies net ≡ with_gates (take l.gate-index l.gates) net (tally_at l.fn.tallies net);
}
