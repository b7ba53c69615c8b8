-- No clause at first, one more, and at the end all of them.
use Rattle.std.proofs.Common.{◌<◌, false, Some, length, sym, ◌∙◌, ap, arith, rules, tests}
use Rattle.std.specs.Cmp.{booleans_Decides}
use Rattle.std.proofs.lemmas.Bool.{true≢false}
use Rattle.std.proofs.lemmas.Option.{slice_get-get_or}
use Rattle.eco_lists.proofs.Places.{slice_get-front}
use Rattle.eco_trace.specs.Split.{Split}
use Rattle.eco_accept.proofs.Parts.{none_before, before_more, before_same, before_all}
use Rattle.eco_accept.proofs.part.add_part.Goals as goal
use Rattle.eco_accept.proofs.part.add_part.Goals.{then-side-number+in_ok-add_clause, else-side-number}

pub loop-number-init : goal.loop-number-init
loop-number-init c =
    none_before c.args.cnf.now.clauses (record { clauses = c.args.trace.now.originals; marks = c.args.side.now }) c.args.part c.requires.empty

pub loop-number-preserved : goal.loop-number-preserved
loop-number-preserved c =
    let s : Split = record { clauses = c.args.trace.now.originals; marks = c.args.side.now } in
    let n = c.loop-number.number in
    let mark = slice_get-get_or s.marks n false c.loop-number-test.true in
    elim c.if-side-number.branch [
      | then-side-number+in_ok-add_clause w ↦
          let within : n < length s.clauses = omega (arith, c.requires.marked, c.loop-number-test.true) in
          let at = sym (slice_get-front s.clauses _ n within) ∙ w.clause.ensures.clause in
          rw w.cnf-is (before_more c.loop-number.cnf.clauses w.add_clause.new.cnf.clauses s c.args.part n w.clause.result.now at (mark ∙ ap Some (search (rules, tests))) w.in_ok-add_clause.ensures.added c.loop-number.invariant)
      | else-side-number w ↦
          let other = w.if-side-number.false in
          rw w.cnf-is (before_same c.loop-number.cnf.clauses s c.args.part _ n mark (λ e. true≢false (sym ((booleans_Decides _ c.args.part).1 e) ∙ other)) c.loop-number.invariant)
    ]

pub returns : goal.returns
returns c = record {
  models = before_all c.loop-number.cnf.clauses (record { clauses = c.args.trace.now.originals; marks = c.args.side.now }) c.args.part c.loop-number.number c.loop-number-test.false c.loop-number.invariant;
}
