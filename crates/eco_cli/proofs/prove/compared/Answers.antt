use Rattle.std.proofs.Common.{subst}
use Rattle.std.proofs.lemmas.Result.{IfOk-weaker}
use Rattle.eco_pose.specs.Equality.{IsComparisonUnfinished, IsEquality}
use Rattle.eco_pose.specs.declared.comparing.Equality.TheVariants as equality
use Rattle.eco_words.specs.CommandLine.{prove_options_of}
use Rattle.eco_cli.specs.declared.prove.ProveStop.TheVariants.{Differs}
use Rattle.eco_cli.specs.Answers.{IsTextAnswer}
use Rattle.eco_cli.specs.Prove.{IsProofAnswer, prove_rules, prove_text}
use Rattle.eco_cli.specs.Rules.{stop_code}
use Rattle.eco_cli.specs.Spent.{IsUnfinishedAnswer}
use Rattle.eco_cli.proofs.ProveStages.{differs_prepared, proof_prepared, uncompared_prepared}
use Rattle.eco_cli.proofs.prove.compared.Goals as goal

pub returns-in-Ok-Equal : goal.returns-in-Ok-Equal
returns-in-Ok-Equal c = λ before after passed.
    let found = subst (λ limit. IsEquality c.args.sides.now.left c.args.sides.now.right limit c.in-Ok-Equal.field-0) c.from-limit.ensures c.in-Ok-Equal.ensures.equality in
    let h : IsEquality c.args.sides.now.left c.args.sides.now.right (prove_options_of c.args.command.now).budget (equality.Equal c.in-Ok-Equal.posed c.in-Ok-Equal.trace) =
    rw c.in-Ok-Equal.field-0-is at found in
    IfOk-weaker c.proved-answer.result (IsProofAnswer (prove_options_of c.args.command.now) c.in-Ok-Equal.posed.clauses c.in-Ok-Equal.trace) _
    (proof_prepared (prove_options_of c.args.command.now) c.args.sides.now c.in-Ok-Equal.posed c.in-Ok-Equal.trace before after passed h.0 h.1 h.2 c.proved-answer.ensures.kept)
    c.proved-answer.ensures.answer

pub returns-in-Ok-Differs : goal.returns-in-Ok-Differs
returns-in-Ok-Differs c = λ before after passed.
    let h : IsEquality c.args.sides.now.left c.args.sides.now.right c.from-limit.result (equality.Differs c.in-Ok-Differs.input) =
    rw c.in-Ok-Differs.field-0-is at c.in-Ok-Differs.ensures.equality in
    IfOk-weaker c.stopped.result
    (IsTextAnswer (stop_code (prove_rules (prove_options_of c.args.command.now)) (Differs c.in-Ok-Differs.input)) (prove_text (prove_options_of c.args.command.now) (Differs c.in-Ok-Differs.input))) _
    (differs_prepared (prove_options_of c.args.command.now) c.args.sides.now c.in-Ok-Differs.input before after h passed) c.stopped.ensures

pub returns : goal.returns
returns c = λ before after passed.
    IfOk-weaker c.unfinished_answer.result (IsUnfinishedAnswer (prove_options_of c.args.command.now).budget c.in-Err.unfinished) _
    (uncompared_prepared (prove_options_of c.args.command.now) c.args.sides.now c.in-Err.unfinished before after
    (subst (λ limit. IsComparisonUnfinished c.args.sides.now.left c.args.sides.now.right limit c.in-Err.unfinished) c.from-limit.ensures c.in-Err.ensures.unfinished) passed) c.unfinished_answer.ensures
