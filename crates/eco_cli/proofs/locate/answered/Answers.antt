-- Where none is named, each net is judged alone.
use Rattle.std.proofs.Common.{◌≡◌, [], length, sym, ◌∙◌}
use Rattle.std.proofs.lemmas.Bool.{eqb-true}
use Rattle.std.proofs.lemmas.Result.{IfOk-weaker}
use Rattle.eco_words.specs.CommandLine.{locate_options_of}
use Rattle.eco_cli.specs.Locate.{locate_rules, rules_for}
use Rattle.eco_cli.specs.Rules.{IsPrepared}
use Rattle.eco_cli.proofs.LocateStages.{none_named, single_prepared}
use Rattle.eco_cli.proofs.locate.answered.Goals as goal

pub returns-then-is_empty : goal.returns-then-is_empty
returns-then-is_empty c = λ before after passed.
    let options = locate_options_of c.args.command.now in
    let empty : length c.args.nets.now ≡ 0 = eqb-true (length c.args.nets.now) 0 (sym c.is_empty.ensures ∙ c.if-is_empty.true) in
    let none = none_named options c.args.change.now c.args.nets.now c.requires.named empty in
    IfOk-weaker c.judged.result (IsPrepared (rules_for [] options) before after) (IsPrepared (locate_rules options) before after) (single_prepared options before after none) (c.judged.ensures before after passed)
