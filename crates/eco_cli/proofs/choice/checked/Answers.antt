-- What was told of the nets is what is answered.
use Rattle.std.proofs.Common.{◌≡◌, List, ℕ, map, ◌∙◌, ap}
use Rattle.std.proofs.lemmas.Result.{IfOk-weaker}
use Rattle.eco_meaning.specs.Circuit.{names}
use Rattle.eco_netlist.specs.Netlists.{names_at}
use Rattle.eco_report.specs.Texts.{unrectifiable_text}
use Rattle.eco_words.specs.CommandLine.{locate_options_of}
use Rattle.eco_cli.specs.Answers.{IsSpentAnswer, IsTextAnswer}
use Rattle.eco_cli.specs.Choice.{IsCutAnswer, choice_text}
use Rattle.eco_cli.specs.Printing.{budget_text}
use Rattle.eco_cli.proofs.ChoiceStages.{stuck_by, suffices_by, wrong_by}
use Rattle.eco_cli.proofs.choice.checked.Goals as goal

pub returns-in-Wrong : goal.returns-in-Wrong
returns-in-Wrong c = λ before after passed.
    let options = locate_options_of c.args.command.now in
    IfOk-weaker c.left_wrong.result (IsTextAnswer 1 (unrectifiable_text c.in-Wrong.input)) _
    (wrong_by options c.args.change.now c.args.nets.now before after passed c.old.ensures.change c.requires.some c.requires.named c.from-limit.result c.from-limit.ensures _ c.in-Wrong.input c.in-Wrong.is
    c.in_ok-needs.ensures) c.left_wrong.ensures

pub returns-in-GivenUp : goal.returns-in-GivenUp
returns-in-GivenUp c = λ before after passed.
    let options = locate_options_of c.args.command.now in
    IfOk-weaker c.stuck_answer.result (IsSpentAnswer (budget_text options.budget c.in-GivenUp.stuck) c.in-GivenUp.stuck) _
    (stuck_by options c.args.change.now c.args.nets.now before after passed c.old.ensures.change c.requires.some c.requires.named c.from-limit.result c.from-limit.ensures _ c.in-GivenUp.stuck c.in-GivenUp.is
    c.in_ok-needs.ensures) c.stuck_answer.ensures

pub returns-in_ok-text-in-Suffices : goal.returns-in_ok-text-in-Suffices
returns-in_ok-text-in-Suffices c = λ before after passed.
    let options = locate_options_of c.args.command.now in
    let change = c.args.change.now in
    let nets = c.args.nets.now in
    let text = c.in_ok-text-in-Suffices.field-0.items in
    let said : text ≡ choice_text options.nets c.in-Suffices.needs.items =
    c.in_ok-text-in-Suffices.ensures ∙ ap (λ (named : List (List ℕ)). choice_text named c.as_slice-in-Suffices.result.now) (ap (map (λ name. name.now)) c.as_slice.ensures.value)
    ∙ ap (choice_text options.nets) c.as_slice-in-Suffices.ensures.value in
    IfOk-weaker c.with_cut.result (IsCutAnswer options change (names_at (names change.old) nets) text) _
    (suffices_by options change nets before after passed c.old.ensures.change c.requires.some c.requires.named c.from-limit.result c.from-limit.ensures _ c.in-Suffices.needs c.in-Suffices.is
    c.in_ok-needs.ensures text said) c.with_cut.ensures
