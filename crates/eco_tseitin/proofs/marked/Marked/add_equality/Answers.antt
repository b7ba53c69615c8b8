-- The two clauses are those of the equality, with a mark each.
use Rattle.std.proofs.Common.{◌++◌, ◌∷◌, [], ◌∙◌, ap}
use Rattle.eco_tseitin.proofs.MarkLaws.{adds_equality}
use Rattle.eco_tseitin.proofs.marked.Marked.add_equality.Goals as goal

pub returns : goal.returns
returns c =
    let mark = c.args.mark in
    adds_equality c.args.self.now (record { cnf = c.add_equal.new.self; marks = c.push-2.new.self }) c.args.left c.args.right mark c.requires.order c.in_ok-add_equal.ensures.ok (c.in_ok-push-2.ensures.items ∙ ap (λ list. list ++ mark ∷ []) c.in_ok-push.ensures.items)
