-- One more column.
use Rattle.std.proofs.Common.{◌++◌, ◌+◌, get_or, take}
use Rattle.std.specs.List.{Contains}
use Rattle.std.proofs.lemmas.Option.{slice_get-get_or}
use Rattle.eco_cover.proofs.Alike.{classes_named, next_listed, split_alike}
use Rattle.eco_cover.proofs.classes.classes_by.Goals as goal

pub split_at-requires-clause-named : goal.split_at-requires-clause-named
split_at-requires-clause-named c =
    classes_named (Contains (take c.loop-column.column-index c.args.columns.now)) (c.args.ones.now ++ c.args.zeros.now) c.loop-column.classes.items c.loop-column.invariant

pub loop-column-preserved : goal.loop-column-preserved
loop-column-preserved c =
    let columns = c.args.columns.now in
    let k = c.loop-column.column-index in
    let column = get_or columns k 0 in
    split_alike (Contains (take k columns)) (Contains (take (k + 1) columns)) (c.args.ones.now ++ c.args.zeros.now) column c.loop-column.classes.items c.split_at.new.classes.items
    (c.requires k 0 c.loop-column-test.true) (next_listed columns k column (slice_get-get_or columns k 0 c.loop-column-test.true)) c.loop-column.invariant c.in_ok-split_at.ensures
