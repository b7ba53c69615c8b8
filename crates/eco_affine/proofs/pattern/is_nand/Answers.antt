-- The edge is the complement of the and-node of the two.
use Rattle.std.proofs.Common.{sym}
use Rattle.std.proofs.lemmas.Bool.{not-false}
use Rattle.eco_affine.proofs.Parities.{nand_of}
use Rattle.eco_affine.proofs.pattern.is_nand.Goals as goal

pub returns-else-not-edge : goal.returns-else-not-edge
returns-else-not-edge c =
    λ is. nand_of c.args.aig.now c.args.edge c.in-Some.first c.in-Some.second c.args.a c.args.b (not-false _ c.if-not-edge.false) (sym c.in-Some.ensures.pair) (λ w. c.are_the_two.ensures w is)
