use Rattle.std.proofs.Common.{take}
use Rattle.eco_tseitin.specs.Encoded.{Encodes}
use Rattle.eco_tseitin.proofs.encode.encode_all.Given as goal

abbrev pub invariant-loop-edge : goal.invariant-loop-edge
invariant-loop-edge l = Encodes l.aig (take l.edge-index l.edges) l.fn.encoder l.encoder l.lits.items
