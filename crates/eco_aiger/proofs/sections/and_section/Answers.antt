use Rattle.eco_aiger.specs.Grammar.{and_words, IsAnd}
use Rattle.std.proofs.lemmas.Result.{err_from_is_err_and}
use Rattle.eco_aiger.proofs.SectionLaws.{unread_more, section_none_at}
use Rattle.eco_aiger.proofs.sections.and_section.Goals as goal

pub returns-in_err-list-in-Some-clause-err : goal.returns-in_err-list-in-Some-clause-err
returns-in_err-list-in-Some-clause-err c =
    let p = err_from_is_err_and c.from_residual.result c.from_residual.ensures.1 in
    rw (p.1, p.2)
    (unread_more c.in_err-list-in-Some.field-0.0
    (section_none_at and_words (IsAnd c.args.top) c.args.lines.now c.in-Some.front.now c.in-Some.rest.now c.args.count c.in-Some.ensures.0 c.in-Some.ensures.1)
    c.in_err-list-in-Some.ensures.err)
