use Rattle.eco_words.specs.CommandLine.{gen_options_of}
use Rattle.eco_words.specs.CommandLine.Command.{gen}
use Rattle.eco_cli.proofs.Answering.{delivered, unprepared}
use Rattle.eco_cli.proofs.GenLaws.{drawn_prepared}
use Rattle.eco_cli.proofs.Making.{cut_unmade, drawn_kept}
use Rattle.eco_inputs.proofs.ReadingLaws.{kept_reads}
use Rattle.eco_cli.proofs.top.draw.Goals as goal

pub returns-in-Ok-clause-answered : goal.returns-in-Ok-clause-answered
returns-in-Ok-clause-answered g c = λ words command.
    delivered words (gen (gen_options_of c.args.command.now)) command _ _ _ _ _ (kept_reads _) c.in-Ok.drawn.answer _ _
    (drawn_prepared (gen_options_of c.args.command.now) _ _ c.in-Ok.drawn c.in-Ok.ensures)
    c.give.ensures.kept c.give.ensures.none c.give.ensures.delivered

pub returns-in-Ok-clause-kept : goal.returns-in-Ok-clause-kept
returns-in-Ok-clause-kept g c = λ words command.
    drawn_kept words (gen_options_of c.args.command.now) command _ _ _ _ c.in-Ok.drawn _ _ c.in-Ok.ensures
    c.give.ensures.made c.give.ensures.unmade c.give.ensures.delivered

pub returns-in-Err-clause-answered : goal.returns-in-Err-clause-answered
returns-in-Err-clause-answered g c = λ words command.
    unprepared words _ _ _ _ _ (kept_reads _) c.ended.ensures.status c.ended.ensures.none

pub returns-in-Err-clause-kept : goal.returns-in-Err-clause-kept
returns-in-Err-clause-kept g c = λ words command. cut_unmade words _ _ _ _ _ _ c.ended.ensures.status c.ended.ensures.unmade
