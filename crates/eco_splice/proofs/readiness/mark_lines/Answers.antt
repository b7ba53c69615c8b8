-- The marks of one more line.
use Rattle.std.proofs.Common.{Some, sym, ◌∙◌, ap, arith}
use Rattle.std.proofs.lemmas.Option.{slice_get-get_or}
use Rattle.eco_splice.proofs.TableLemmas.{read_more, read_all}
use Rattle.eco_splice.proofs.readiness.mark_lines.Goals as goal

pub loop-place-preserved : goal.loop-place-preserved
loop-place-preserved c =
    read_more _ c.args.lines.now c.loop-place.place c.index-lines-place.result c.as_slice.result.now _ _
    (slice_get-get_or c.args.lines.now c.loop-place.place c.index-lines-place.result (omega arith) ∙ ap Some (sym c.index-lines-place.is))
    c.as_slice.ensures.value c.loop-place.invariant c.mark_operands.ensures

pub returns : goal.returns
returns c = read_all _ c.args.lines.now c.loop-place.place _ (omega arith) c.loop-place.invariant
