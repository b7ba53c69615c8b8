-- What the search tells of the clauses is told of the tuple for which they ask.
use Rattle.std.proofs.lemmas.Result.{IfOk-weaker}
use Rattle.eco_tuples.specs.Answers.{IsTold, IsClashAnswer}
use Rattle.eco_tuples.proofs.AskingLaws.{clash_answer}
use Rattle.eco_tuples.proofs.asking.clashes.Goals as goal

pub returns : goal.returns
returns g c =
    let problem = c.args.problem.now in
    let tuple = c.args.tuple.now in
    let side = c.in_ok-side.side in
    IfOk-weaker c.answer_of-answer.result (IsTold side c.args.limit) (IsClashAnswer problem tuple c.args.limit)
    (clash_answer problem tuple c.args.limit side c.requires.tuple c.in_ok-side.ensures.asks) c.answer_of-answer.ensures
