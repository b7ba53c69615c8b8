use Rattle.std.proofs.Common.{◌≡◌}
use Rattle.eco_text.specs.Prefix.{prefix_of}
use Rattle.eco_text.proofs.names.prefix_with.Given as goal

abbrev pub invariant-loop : goal.invariant-loop
invariant-loop l = l.prefix.items ≡ prefix_of l.stem l.counter
