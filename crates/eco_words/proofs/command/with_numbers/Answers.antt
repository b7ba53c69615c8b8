use Rattle.std.proofs.Common.{◌≡◌, ◌∙◌, ap, codes}
use Rattle.std.proofs.lemmas.Result.{IfOk-weaker}
use Rattle.clap.specs.Words.{App, app_of}
use Rattle.eco_words.specs.EcoCommand.{with_lax, with_numbers}
use Rattle.eco_words.proofs.command.with_numbers.Goals as goal

pub returns-clause-app : goal.returns-clause-app
returns-clause-app c =
    IfOk-weaker c.with_lax-2.result
    (λ more. app_of more ≡ with_lax (app_of c.in_ok-command.command) (codes "input-weight")) (λ more. app_of more ≡ with_numbers (app_of c.args.command))
    (λ more same. same ∙ ap (λ (command : App). with_lax command (codes "input-weight")) c.in_ok-command.ensures.app) c.with_lax-2.ensures.app
