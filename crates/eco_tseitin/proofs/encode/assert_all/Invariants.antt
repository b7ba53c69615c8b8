use Rattle.std.proofs.Common.{take}
use Rattle.eco_tseitin.specs.Encoded.{Asserts}
use Rattle.eco_tseitin.proofs.encode.assert_all.Given as goal

abbrev pub invariant-loop-lit : goal.invariant-loop-lit
invariant-loop-lit l = Asserts (take l.lit-index l.lits) l.fn.encoder l.encoder
