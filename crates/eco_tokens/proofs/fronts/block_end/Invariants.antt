-- The end that is looked for in what is left, behind the bytes that were passed, is the end in all.
use Rattle.std.proofs.Common.{◌≡◌, ◌+◌, false, drop}
use Rattle.std.specs.Prelude.{option_map}
use Rattle.eco_tokens.specs.Front.{end_of}
use Rattle.eco_tokens.proofs.fronts.block_end.Given as goal

abbrev pub invariant-loop-i : goal.invariant-loop-i
invariant-loop-i l = option_map (λ n. n + l.i) (end_of l.star (drop l.i l.bytes)) ≡ end_of false l.bytes
