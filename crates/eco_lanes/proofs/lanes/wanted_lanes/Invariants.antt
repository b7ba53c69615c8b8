-- The lanes in which the first outputs are as wanted.
use Rattle.std.specs.Prelude.{◌↔◌}
use Rattle.std.proofs.Common.{◌≡◌, ◌<◌, ℕ, true, false, map, take}
use Rattle.std.specs.List.{slice_index_or}
use Rattle.eco_gates.specs.Words.{is_set, lane}
use Rattle.eco_gates.specs.declared.gate.NetId.{NetId}
use Rattle.eco_lanes.proofs.lanes.wanted_lanes.Given as goal

abbrev pub invariant-loop-place : goal.invariant-loop-place
invariant-loop-place l =
    (place : ℕ) → place < 64 → (is_set l.lanes place ≡ true) ↔
    (map (λ (net : NetId). slice_index_or (lane l.words place) net.0 false) (take l.place l.outputs) ≡ take l.place l.wanted)
