-- The question can be asked, and is searched to its end.
use Rattle.std.proofs.Common.{arith}
use Rattle.eco_pose.specs.declared.question.Question.TheVariants as questions
use Rattle.eco_audit.proofs.Forced.{targets_count}
use Rattle.eco_audit.proofs.forcing.is_unfixed.Goals as goal

pub ask_fix-asked-requires-clause-fixed : goal.ask_fix-asked-requires-clause-fixed
ask_fix-asked-requires-clause-fixed g c = λ targets are. omega (arith, targets_count c.args.solution.now targets c.requires.judged are, c.requires.fixed)

pub want_of_memory-requires : goal.want_of_memory-requires
want_of_memory-requires g c = (c.args.solution.now.problem.now, questions.Fix c.args.input.now c.args.fixed.now, c.in-Err.ensures.unfinished)

pub returns-in-Ok : goal.returns-in-Ok
returns-in-Ok g c = c.is_never.ensures c.args.solution.now c.args.input.now c.args.fixed.now c.requires.judged c.in-Ok.ensures.answer
