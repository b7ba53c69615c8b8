use Rattle.std.proofs.Common.{◌≡◌, ℕ, ◌<◌, length, take}
use Rattle.std.specs.Prelude.{◌||◌}
use Rattle.std.specs.List.{list_any}
use Rattle.eco_netlist.specs.Tallies.{tally_at, reads_net}
use Rattle.eco_netlist.proofs.tally.note_terms.Given as goal

abbrev pub invariant-loop-term : goal.invariant-loop-term
invariant-loop-term l = record {
  kept : length l.tallies ≡ length l.fn.tallies;
  noted : (net : ℕ) → net < length l.fn.tallies → tally_at l.tallies net ≡ record (tally_at l.fn.tallies net) {
    is_read = (tally_at l.fn.tallies net).is_read || list_any (reads_net net) (take l.term-index l.terms);
  };
}
