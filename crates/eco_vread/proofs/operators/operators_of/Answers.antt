use Rattle.std.proofs.Common.{arith}
use Rattle.eco_vread.proofs.Works.{operators_counted}
use Rattle.eco_vread.proofs.operators.operators_of.Goals as goal

pub returns : goal.returns
returns c =
    let counted = operators_counted c.args.value.now c.requires in
    omega (arith, counted)
