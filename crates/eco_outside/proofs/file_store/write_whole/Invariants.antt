use Rattle.std.proofs.Common.{◌≡◌, ◌++◌, length, List, ℕ}
use Rattle.std.specs.Io.KnownBytes.{Appends}
use Rattle.eco_outside.proofs.file_store.write_whole.Given as goal

abbrev pub invariant-writes : goal.invariant-writes
invariant-writes g l = (written : List ℕ) × Appends (g.F.Write.contents l.initial.file) (g.F.Write.contents l.file) written × (written ++ l.rest ≡ l.bytes)

abbrev pub decreases-writes : goal.decreases-writes
decreases-writes g l = length l.rest
