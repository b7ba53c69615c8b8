use Rattle.std.proofs.Common.{◌≡◌, ℕ, ◌<◌, length, take, count_by}
use Rattle.eco_netlist.specs.Tallies.{tally_at, with_count, is_net}
use Rattle.eco_netlist.proofs.tally.note_nets.Given as goal

abbrev pub invariant-loop-net : goal.invariant-loop-net
invariant-loop-net l = record {
  kept : length l.tallies ≡ length l.fn.tallies;
  noted : (net : ℕ) → net < length l.fn.tallies → tally_at l.tallies net ≡ with_count l.place (count_by (is_net net) (take l.net-index l.nets)) (tally_at l.fn.tallies net);
}
