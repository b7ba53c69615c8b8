-- There is a mark for each of the shifted clauses.
use Rattle.std.proofs.Common.{length, map, sym, ◌∙◌, ap}
use Rattle.std.proofs.lemmas.List.{length-map}
use Rattle.std.proofs.lemmas.Result.{on_ok_weaker}
use Rattle.eco_trace.specs.Adding.{shifted}
use Rattle.eco_tseitin.proofs.MarkLaws.{adds_replicated}
use Rattle.eco_tseitin.proofs.marked.Marked.add_shifted.Goals as goal

pub returns : goal.returns
returns c =
    let clauses = c.args.cnf.now.clauses in
    let each = map (shifted c.args.by) in
    on_ok_weaker c.add_marks.result
    (λ marks. adds_replicated c.args.self.now (record { cnf = c.add_shifted.new.self; marks = c.add_marks.new.marks }) (map each clauses) (length c.clauses.result.now) c.args.mark c.in_ok-add_shifted.ensures.ok marks (ap length c.clauses.ensures.clauses ∙ sym (length-map clauses each)))
    c.add_marks.ensures
