use Rattle.std.proofs.Common.{codes}
use Rattle.clap.specs.Words.{subcommand_rows_of}
use Rattle.eco_words.proofs.RowLemmas.{misvalued, misvalued_numbered, taken_numbered}
use Rattle.eco_words.proofs.reading.invocation.Goals as goal

pub returns-in-Some-clause-ok : goal.returns-in-Some-clause-ok
returns-in-Some-clause-ok c =
    taken_numbered (subcommand_rows_of c.args.matches.now) (codes "synth") _ _ c.synth.result _ c.in-Some.ensures.some c.synth.ensures.ok c.numbered.ensures

pub returns-in-Some-clause-err : goal.returns-in-Some-clause-err
returns-in-Some-clause-err c =
    misvalued_numbered (subcommand_rows_of c.args.matches.now) (codes "synth") _ _ c.synth.result _ c.in-Some.ensures.some c.synth.ensures.err c.numbered.ensures

pub returns-in-Some-entered-clause-err : goal.returns-in-Some-entered-clause-err
returns-in-Some-entered-clause-err c =
    misvalued_numbered (subcommand_rows_of c.args.matches.now) (codes "audit") _ _ c.audit.result _ c.in-Some-entered.ensures.some c.audit.ensures.err c.numbered-in-Some-entered.ensures

pub returns-in-Some-entered-2-clause-err : goal.returns-in-Some-entered-2-clause-err
returns-in-Some-entered-2-clause-err c =
    misvalued_numbered (subcommand_rows_of c.args.matches.now) (codes "prove") _ _ c.prove.result _ c.in-Some-entered-2.ensures.some c.prove.ensures.err
    c.numbered-in-Some-entered-2.ensures

pub returns-in-Some-entered-4-clause-ok : goal.returns-in-Some-entered-4-clause-ok
returns-in-Some-entered-4-clause-ok c =
    taken_numbered (subcommand_rows_of c.args.matches.now) (codes "gen") _ _ c.draw.result _ c.in-Some-entered-4.ensures.some c.draw.ensures.ok
    c.numbered-in-Some-entered-4.ensures

pub returns-in-Some-entered-4-clause-err : goal.returns-in-Some-entered-4-clause-err
returns-in-Some-entered-4-clause-err c =
    misvalued_numbered (subcommand_rows_of c.args.matches.now) (codes "gen") _ _ c.draw.result _ c.in-Some-entered-4.ensures.some c.draw.ensures.err
    c.numbered-in-Some-entered-4.ensures

pub returns-clause-err : goal.returns-clause-err
returns-clause-err c =
    misvalued (subcommand_rows_of c.args.matches.now) (codes "locate") _ _ c.locate.result c.in-Some-entered-5.ensures.some c.locate.ensures.err
