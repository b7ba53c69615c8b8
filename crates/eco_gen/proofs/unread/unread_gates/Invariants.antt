use Rattle.std.proofs.Common.{◌≡◌, not}
use Rattle.std.specs.List.{filter, range_with_len}
use Rattle.eco_gen.specs.Drawn.{is_read}
use Rattle.eco_gen.proofs.unread.unread_gates.Given as goal

abbrev pub invariant-loop-gate : goal.invariant-loop-gate
invariant-loop-gate l = l.gates.items ≡ filter (λ j. not (is_read l.draws.seed l.draws.size j)) (range_with_len 0 l.gate)
