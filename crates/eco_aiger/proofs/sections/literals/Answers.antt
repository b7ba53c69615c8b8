use Rattle.eco_aiger.specs.Grammar.{literal_words}
use Rattle.eco_aiger.specs.Parts.{IsOfForm}
use Rattle.eco_aiger.proofs.Rows.{rows_stuck_at}
use Rattle.eco_aiger.proofs.SectionLaws.{unread_known}
use Rattle.eco_aiger.proofs.sections.literals.Goals as goal

pub returns-in-None-clause-err : goal.returns-in-None-clause-err
returns-in-None-clause-err c =
    let none = rw c.in-None.is at c.in_ok-literal.ensures in
    unread_known c.fault_at.result (rows_stuck_at literal_words (IsOfForm c.args.is_plain c.args.top) c.args.lines.now c.loop-index.index _ c.loop-index-test.true none)
