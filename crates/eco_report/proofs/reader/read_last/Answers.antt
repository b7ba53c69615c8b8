use Rattle.std.proofs.Common.{arith, sym, subst, ◌∙◌}
use Rattle.std.proofs.lemmas.Bool.{eqb-true, eqb-false}
use Rattle.eco_report.specs.Reading.{Steps}
use Rattle.eco_report.proofs.Answered.{nothing_left_ok, nothing_left_err, last_wrong, last_early}
use Rattle.eco_report.proofs.reader.read_last.Goals as goal

pub returns-then-is_empty-clause-ok : goal.returns-then-is_empty-clause-ok
returns-then-is_empty-clause-ok c =
    nothing_left_ok c.args.left.now c.args.number c.args.state c.finish.result (eqb-true _ 0 (sym c.is_empty.ensures ∙ c.if-is_empty.true)) c.finish.ensures.ok

pub returns-then-is_empty-clause-refused : goal.returns-then-is_empty-clause-refused
returns-then-is_empty-clause-refused c =
    nothing_left_err c.args.left.now c.args.number c.args.state c.finish.result (eqb-true _ 0 (sym c.is_empty.ensures ∙ c.if-is_empty.true)) c.finish.ensures.refused

pub returns-in_default-clause-refused : goal.returns-in_default-clause-refused
returns-in_default-clause-refused c = λ bytes r free.
    let some = eqb-false _ 0 (sym c.is_empty.ensures ∙ c.if-is_empty.false) in
    let none = subst (Steps c.args.state c.args.left.now) c.in_default.is c.in_ok-step.ensures in
    last_wrong bytes c.args.left.now c.args.number c.args.state (omega (arith, some)) none r free

pub returns-clause-refused : goal.returns-clause-refused
returns-clause-refused c = λ bytes r free.
    let some = eqb-false _ 0 (sym c.is_empty.ensures ∙ c.if-is_empty.false) in
    let next = subst (Steps c.args.state c.args.left.now) c.in-Some.is c.in_ok-step.ensures in
    last_early bytes c.args.left.now c.args.number c.args.state _ (omega (arith, some)) next r free
