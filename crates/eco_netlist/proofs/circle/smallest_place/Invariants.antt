use Rattle.std.proofs.Common.{ℕ, ◌<◌, [], length, slice_index_or}
use Rattle.eco_netlist.specs.Refusals.{IsNoLater}
use Rattle.eco_netlist.proofs.circle.smallest_place.Given as goal

abbrev pub invariant-loop-place : goal.invariant-loop-place
invariant-loop-place l = record {
  within : l.least < length l.names;
  smallest : (k : ℕ) → k < l.place → IsNoLater (slice_index_or l.names l.least []) (slice_index_or l.names k []);
}
