-- The columns so far.
use Rattle.std.proofs.Common.{◌<◌, All, length}
use Rattle.eco_hitting.proofs.rounds.listed.Given as goal

abbrev pub invariant-loop-column : goal.invariant-loop-column
invariant-loop-column l = All (λ column. column < length l.weights) l.columns.items
