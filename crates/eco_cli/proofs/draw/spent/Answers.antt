use Rattle.std.proofs.Common.{refl, subst}
use Rattle.eco_cli.specs.Answers.{IsSpentAnswer}
use Rattle.eco_cli.proofs.draw.spent.Goals as goal

pub returns-in-Ok : goal.returns-in-Ok
returns-in-Ok c = record {
  given_up = c.requires.given_up;
  kept = refl;
  answer = subst (λ text. IsSpentAnswer text c.args.stuck c.spent_answer.result) c.in-Ok.ensures c.spent_answer.ensures;
}
