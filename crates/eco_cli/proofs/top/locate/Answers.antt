use Rattle.std.proofs.Common.{refl}
use Rattle.eco_words.specs.CommandLine.{locate_options_of}
use Rattle.eco_words.specs.CommandLine.Command.{locate}
use Rattle.eco_cli.proofs.Answering.{delivered, unprepared}
use Rattle.eco_cli.proofs.top.locate.Goals as goal

pub returns-in-Ok-clause-answered : goal.returns-in-Ok-clause-answered
returns-in-Ok-clause-answered g c = λ words command.
    delivered words (locate (locate_options_of c.args.command.now)) command _ _ _ _ _ c.in-Ok.ensures.keeps c.in-Ok.answer _ _
    c.in-Ok.ensures.prepared c.give.ensures.kept c.give.ensures.none c.give.ensures.delivered

pub returns-in-Err-clause-answered : goal.returns-in-Err-clause-answered
returns-in-Err-clause-answered g c = λ words command. unprepared words _ _ _ _ _ c.in-Err.ensures.keeps c.ended.ensures.status c.ended.ensures.none

pub returns-in-Ok-clause-unmade : goal.returns-in-Ok-clause-unmade
returns-in-Ok-clause-unmade g c = c.give.ensures.never refl
