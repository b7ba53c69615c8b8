-- The subcommands join one after the other.
use Rattle.std.proofs.Common.{◌≡◌, ◌∙◌, IfOk}
use Rattle.std.proofs.lemmas.Result.{IfOk-weaker}
use Rattle.clap.specs.Words.{App, app_of, with_subcommand}
use Rattle.eco_words.specs.EcoCommand.{audit_app, eco_app, gen_app, locate_app, prove_app, recheck_app, synth_app}
use Rattle.eco_words.proofs.command.eco_command.Goals as goal

-- equal commands grow alike
grown : {old new : App} (sub : App) → old ≡ new → with_subcommand old sub.top ≡ with_subcommand new sub.top
grown sub same = λ i. with_subcommand (same i) sub.top

pub returns : goal.returns
unfolding eco_app
returns c =
    let synth = c.in_ok-command.ensures synth_app c.synth_command.ensures.app ∙ grown synth_app c.bare_command.ensures in
    let audit = c.in_ok-command-2.ensures audit_app c.audit_command.ensures.app ∙ grown audit_app synth in
    let prove = c.in_ok-command-3.ensures prove_app c.prove_command.ensures.app ∙ grown prove_app audit in
    let recheck = c.in_ok-command-4.ensures recheck_app c.recheck_command.ensures.app ∙ grown recheck_app prove in
    let gen = c.in_ok-command-5.ensures gen_app c.gen_command.ensures.app ∙ grown gen_app recheck in
    IfOk-weaker c.with_made-6.result
    (λ more. (app : App) → IfOk c.locate_command.result (λ subcommand. app_of subcommand ≡ app) → app_of more ≡ with_subcommand (app_of c.in_ok-command-5.command) app.top)
    (λ more. app_of more ≡ eco_app)
    (λ more same. same locate_app c.locate_command.ensures.app ∙ grown locate_app gen) c.with_made-6.ensures
