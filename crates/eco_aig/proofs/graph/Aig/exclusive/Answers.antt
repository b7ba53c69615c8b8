-- What is made so is the exclusive disjunction.
use Rattle.std.proofs.Common.{refl, rules}
use Rattle.eco_aig.proofs.Exclusives.{exclusive_value}
use Rattle.eco_aig.proofs.graph.Aig.exclusive.Goals as goal

pub returns-then-eq-2-clause-made : goal.returns-then-eq-2-clause-made
returns-then-eq-2-clause-made c = search rules

pub returns-then-eq-2-clause-value : goal.returns-then-eq-2-clause-value
returns-then-eq-2-clause-value c =
    let a = c.in_ok-first.first in
    let b = c.in_ok-first.second in
    exclusive_value c.args.self.now c.args.node a b ((returns-then-eq-2-clause-made c a b).0 refl)
