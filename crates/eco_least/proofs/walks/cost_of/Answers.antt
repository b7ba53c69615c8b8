-- The signals are nets.
use Rattle.std.proofs.Common.{◌<◌, length, sym, subst}
use Rattle.std.specs.List.{All}
use Rattle.eco_meaning.specs.Circuit.{names}
use Rattle.eco_query.specs.Problem.{ProblemValue}
use Rattle.eco_base.specs.declared.based.Based.{Based}
use Rattle.eco_least.proofs.AccountLaws.{base_within}
use Rattle.eco_least.proofs.walks.cost_of.Goals as goal

pub sum_of-requires : goal.sum_of-requires
sum_of-requires g c =
    let t = c.args.target.now in
    subst (λ (problem : ProblemValue). All (λ (based : Based). based.net.0 < length (names problem.implementation)) c.as_slice.result.now) (sym c.problem.ensures)
    (subst (All (λ (based : Based). based.net.0 < length (names t.problem.implementation))) (sym c.as_slice.ensures.value)
    (base_within t c.number.ensures.target c.args.chosen.now c.requires))
