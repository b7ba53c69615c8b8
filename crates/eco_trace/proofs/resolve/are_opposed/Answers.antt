use Rattle.eco_trace.proofs.ResolventLaws.{opposed_from, opposed_to}
use Rattle.eco_trace.proofs.resolve.are_opposed.Goals as goal

pub returns-in-Some-Some : goal.returns-in-Some-Some
returns-in-Some-Some c =
    let one = c.in-Some-Some.ensures.some in
    let other = c.in-Some-Some.ensures'.some in (
      opposed_from c.args.left.now c.args.right.now c.args.pivot c.in-Some-Some.one c.in-Some-Some.other one.0 one.1 other.0 other.1,
      opposed_to c.args.left.now c.args.right.now c.args.pivot c.in-Some-Some.one c.in-Some-Some.other c.requires.left c.requires.right one.0 one.1 other.0 other.1,
    )
