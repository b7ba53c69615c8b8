use Rattle.std.proofs.Common.{◌+◌, ◌-◌, vec_len}
use Rattle.std.specs.Io.KnownBytes.{Consumes}
use Rattle.eco_outside.proofs.file_store.read_up_to.Given as goal

abbrev pub invariant-reads : goal.invariant-reads
invariant-reads g l = Consumes (g.F.Read.remaining l.initial.file) (g.F.Read.remaining l.file) l.bytes.items

abbrev pub decreases-reads : goal.decreases-reads
decreases-reads g l = l.most + 1 - vec_len l.bytes
