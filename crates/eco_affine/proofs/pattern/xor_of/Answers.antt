-- What is made as `Aig::xor` makes it has the parity of its edges.
use Rattle.eco_affine.proofs.Parities.{exclusive_parity}
use Rattle.eco_affine.proofs.pattern.xor_of.Goals as goal

pub returns-in-Some : goal.returns-in-Some
returns-in-Some c =
    let a = c.in-Some.a in
    let b = c.in-Some.b in
    exclusive_parity c.args.aig.now c.args.node a b c.nodes.ensures.graph ((c.exclusive.ensures.made a b).0 c.in-Some.is)
