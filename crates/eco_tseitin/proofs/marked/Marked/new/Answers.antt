use Rattle.std.proofs.Common.{refl, ap, ◌∙◌, replicate, length}
use Rattle.eco_tseitin.proofs.MarkLaws.{marks_same}
use Rattle.eco_tseitin.proofs.marked.Marked.new.Goals as goal

pub returns : goal.returns
returns c =
    let mark = c.args.mark in
    (refl, c.in_ok-marks.ensures.items_if_clones_equal (λ y same. same) ∙ ap (λ list. replicate (length list) mark) c.clauses.ensures.clauses ∙ marks_same mark c.args.cnf.clauses)
