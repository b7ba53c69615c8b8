-- One more line marks its target, or drives one that it may not.
use Rattle.std.proofs.Common.{Some, sym, ◌∙◌, ap, arith}
use Rattle.std.proofs.lemmas.Option.{slice_get-get_or}
use Rattle.eco_splice.proofs.TableLemmas.{marked_more, unmarked_line}
use Rattle.eco_splice.proofs.readiness.mark_targets.Goals as goal

pub loop-place-preserved : goal.loop-place-preserved
loop-place-preserved c =
    marked_more c.args.roots.now c.args.lines.now c.loop-place.place c.index-lines-place.result _ _
    (slice_get-get_or c.args.lines.now c.loop-place.place c.index-lines-place.result (omega arith) ∙ ap Some (sym c.index-lines-place.is))
    c.loop-place.invariant (c.mark_target.ensures.marked c.if-not-mark_target.false)

pub returns-then-not-mark_target-clause-refused : goal.returns-then-not-mark_target-clause-refused
returns-then-not-mark_target-clause-refused c = λ no drive.
    unmarked_line c.args.roots.now c.args.lines.now c.loop-place.place c.index-lines-place.result _
    (slice_get-get_or c.args.lines.now c.loop-place.place c.index-lines-place.result (omega arith) ∙ ap Some (sym c.index-lines-place.is))
    c.loop-place.invariant (c.mark_target.ensures.refused c.if-not-mark_target.true) drive
