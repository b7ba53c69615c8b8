-- What is told of the problem tells of the nets.
use Rattle.std.proofs.lemmas.Result.{IfOk-weaker}
use Rattle.eco_meaning.specs.Circuit.{names}
use Rattle.eco_netlist.specs.Netlists.{names_at}
use Rattle.eco_locate.specs.Questions.{TellsNets, TellsProblem}
use Rattle.eco_locate.proofs.NetLemmas.{tells_of_nets}
use Rattle.eco_locate.proofs.judging.judge.Goals as goal

pub returns : goal.returns
returns g c =
    let f = c.args.change.now.old in
    let asked = c.args.change.now.goal in
    let nets = c.args.nets.now in
    let problem = c.in_ok-problem.problem in
    let limit = c.args.limit in
    IfOk-weaker c.judge_problem-verdict.result (TellsProblem problem limit) (TellsNets f asked limit (names_at (names f) nets))
    (λ verdict tells. tells_of_nets f asked nets problem limit verdict c.old.ensures.change c.requires.nets c.in_ok-problem.ensures tells)
    c.judge_problem-verdict.ensures
