-- The gates so far have their values at each place, each turned where its net is.
use Rattle.std.proofs.Common.{◌≡◌, ℕ, ◌<◌, length, map}
use Rattle.eco_gates.specs.Words.{lane}
use Rattle.eco_gates.proofs.Running.{IsRunTo}
use Rattle.eco_lanes.specs.Turning.{turned_gate}
use Rattle.eco_lanes.proofs.turning.fill_turned.Given as goal

abbrev pub invariant-loop-number : goal.invariant-loop-number
invariant-loop-number l =
    (length l.words ≡ length l.initial.words) × ((place : ℕ) → place < 64 →
    IsRunTo (map (turned_gate (lane l.turns place)) l.gates) l.order (lane l.initial.words place) l.number-index (lane l.words place))
