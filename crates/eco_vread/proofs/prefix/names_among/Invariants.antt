-- The names so far, and then those of the rest, are those of all.
use Rattle.std.proofs.Common.{◌≡◌, ◌++◌, map, length}
use Rattle.eco_tokens.specs.Ahead.{tokens_ahead}
use Rattle.eco_vread.specs.Meaning.{names_said}
use Rattle.eco_vread.proofs.prefix.names_among.Given as goal

abbrev pub invariant-loop-token : goal.invariant-loop-token
invariant-loop-token l =
    map (λ name. name.now) l.names.items ++ names_said (tokens_ahead l.rest) ≡ names_said (tokens_ahead l.bytes)

abbrev pub decreases-loop-token : goal.decreases-loop-token
decreases-loop-token l = length l.rest
