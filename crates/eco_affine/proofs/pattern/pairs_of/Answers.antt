-- The node is neither of two conjunctions.
use Rattle.std.proofs.Common.{sym}
use Rattle.std.proofs.lemmas.Bool.{not-false}
use Rattle.eco_affine.proofs.Parities.{neither_of}
use Rattle.eco_affine.proofs.pattern.pairs_of.Goals as goal

pub returns : goal.returns
returns c =
    neither_of c.args.aig.now c.args.node c.in_ok-first.first c.in_ok-first.second c.in_ok-a.a c.in_ok-a.b c.in_ok-c.c c.in_ok-c.d c.nodes.ensures.graph (sym c.in_ok-first.ensures.pair) (not-false _ c.if-not-first.false) (not-false _ c.if-not-second.false) (sym c.in_ok-a.ensures.pair) (sym c.in_ok-c.ensures.pair)
