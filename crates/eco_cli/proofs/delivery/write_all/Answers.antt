use Rattle.std.proofs.Common.{map, take, subst, sym}
use Rattle.eco_cli.specs.Answers.{write_of}
use Rattle.eco_cli.proofs.Delivering.{IsWriting, next_failed, next_lacks_memory, one_more, writes_cut, writes_more}
use Rattle.eco_cli.proofs.delivery.write_all.Goals as goal

pub returns-in-Err-clause-failed : goal.returns-in-Err-clause-failed
returns-in-Err-clause-failed g c = λ had.
    let fails = rw c.as_slice.ensures.value at (c.in-Err.ensures.failed had) in
    next_failed _ _ _ _ (map write_of (take c.loop-file.file-index c.args.writes.now)) (write_of c.file-item.result) _
    (writes_cut c.args.writes.now c.loop-file.file-index c.file-item.result c.loop-file-test.true c.file-item.is)
    c.loop-file.invariant fails

pub returns-in-Err-clause-cut : goal.returns-in-Err-clause-cut
returns-in-Err-clause-cut g c = λ none.
    next_lacks_memory _ _ _ _ (map write_of (take c.loop-file.file-index c.args.writes.now)) _
    (writes_cut c.args.writes.now c.loop-file.file-index c.file-item.result c.loop-file-test.true c.file-item.is)
    c.loop-file.invariant (c.in-Err.ensures.cut none)

pub loop-file-preserved : goal.loop-file-preserved
loop-file-preserved g c =
    let puts = rw c.as_slice.ensures.value at c.in-Ok.ensures.ok in
    subst (IsWriting (g.S.Store.view c.args.store.now) (g.S.Store.view c.write_file.new.store))
    (sym (writes_more c.args.writes.now c.loop-file.file-index c.file-item.result c.loop-file-test.true c.file-item.is))
    (one_more _ _ _ (map write_of (take c.loop-file.file-index c.args.writes.now)) (write_of c.file-item.result)
    c.loop-file.invariant c.in-Ok.ensures.keeps puts)
