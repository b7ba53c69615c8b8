use Rattle.eco_aiger.specs.Grammar.{and_words, IsAnd}
use Rattle.eco_aiger.proofs.Rows.{rows_stuck_at}
use Rattle.eco_aiger.proofs.SectionLaws.{unread_known}
use Rattle.eco_aiger.proofs.sections.ands.Goals as goal

pub returns-in-None-clause-err : goal.returns-in-None-clause-err
returns-in-None-clause-err c =
    let none = rw c.in-None.is at c.in_ok-and.ensures in
    unread_known c.fault_at.result (rows_stuck_at and_words (IsAnd c.args.top) c.args.lines.now c.loop-index.index _ c.loop-index-test.true none)
