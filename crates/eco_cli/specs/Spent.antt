-- The answers of questions that were given up.
use Rattle.std.specs.Prelude.{ℕ}
use Rattle.eco_pose.specs.declared.unfinished.Unfinished.{Unfinished}
use Rattle.eco_pose.specs.declared.unfinished.Unfinished.TheVariants.{GivenUp, OutOfMemory}
use Rattle.eco_cli.specs.declared.answer.Answer.{Answer}
use Rattle.eco_cli.specs.Answers.{IsSpentAnswer}
use Rattle.eco_cli.specs.Printing.{budget_text}

-- the answer keeps the question that was given up, each of which may have so many learnt clauses; where memory ran out there
-- is none
abbrev pub IsUnfinishedAnswer : ℕ → Unfinished → Answer → Type 0
IsUnfinishedAnswer budget (GivenUp stuck) answer = IsSpentAnswer (budget_text budget stuck.value) stuck.value answer
IsUnfinishedAnswer budget OutOfMemory answer = ⊥
