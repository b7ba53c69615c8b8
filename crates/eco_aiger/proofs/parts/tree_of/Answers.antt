use Rattle.std.proofs.Common.{arith, length-drop}
use Rattle.std.proofs.lemmas.List.{take_all}
use Rattle.eco_aiger.proofs.Bodies.{tree_refused_at}
use Rattle.eco_aiger.proofs.parts.tree_of.Goals as goal

pub returns-in-Some-clause-err : goal.returns-in-Some-clause-err
returns-in-Some-clause-err c =
    let is = rw c.in-Some.is at c.in_ok-header-in-len1-up.ensures in
    tree_refused_at c.body.result c.args.lines.now _ _ c.in-Some.header c.in-len1-up.len_at_least (take_all _ _ (omega (arith, length-drop 1 c.args.lines.now))) is c.body.ensures.err
