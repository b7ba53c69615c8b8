-- No clause at first, one more, and at the end all of them.
use Rattle.std.proofs.Common.{◌<◌, false, Some, length, sym, ◌∙◌, ap, arith, rules, tests}
use Rattle.std.specs.Cmp.{booleans_Decides}
use Rattle.std.proofs.lemmas.Bool.{true≢false}
use Rattle.std.proofs.lemmas.Option.{slice_get-get_or}
use Rattle.eco_lists.proofs.Places.{slice_get-front}
use Rattle.eco_trace.specs.Split.{Split}
use Rattle.eco_trace.specs.Variables.{holds}
use Rattle.eco_trace.proofs.Occurring.{none_before, before_more, before_same, before_all}
use Rattle.eco_trace.proofs.variables.variables_of.Goals as goal
use Rattle.eco_trace.proofs.variables.variables_of.Goals.{then-marks-number+in_ok-add_clause, else-marks-number}

pub loop-number-init : goal.loop-number-init
loop-number-init c =
    none_before (holds c.new-variables.result) (record { clauses = c.args.trace.now.originals; marks = c.args.marks.now }) c.args.part c.new-variables.ensures

pub loop-number-preserved : goal.loop-number-preserved
loop-number-preserved c =
    let s : Split = record { clauses = c.args.trace.now.originals; marks = c.args.marks.now } in
    let n = c.loop-number.number in
    let mark = slice_get-get_or s.marks n false c.loop-number-test.true in
    elim c.if-marks-number.branch [
      | then-marks-number+in_ok-add_clause w ↦
          let within : n < length s.clauses = omega (arith, c.requires, c.loop-number-test.true) in
          let at = sym (slice_get-front s.clauses _ n within) ∙ w.clause.ensures.clause in
          rw w.variables-is (before_more (holds c.loop-number.variables) (holds w.add_clause.new.self) s c.args.part n w.clause.result.now at (mark ∙ ap Some (search (rules, tests))) w.in_ok-add_clause.ensures c.loop-number.invariant)
      | else-marks-number w ↦
          let other = w.if-marks-number.false in
          rw w.variables-is (before_same (holds c.loop-number.variables) s c.args.part _ n mark (λ e. true≢false (sym ((booleans_Decides _ c.args.part).1 e) ∙ other)) c.loop-number.invariant)
    ]

pub returns : goal.returns
returns c =
    before_all (holds c.loop-number.variables) (record { clauses = c.args.trace.now.originals; marks = c.args.marks.now }) c.args.part c.loop-number.number c.loop-number-test.false c.loop-number.invariant
