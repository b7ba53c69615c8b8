use Rattle.std.proofs.Common.{refl, arith, false}
use Rattle.std.specs.Prelude.{replicate}
use Rattle.std.proofs.lemmas.List.{take_more}
use Rattle.eco_aig.proofs.MarkLemmas.{with_marks-append}
use Rattle.eco_aig.proofs.reach.root_marks.Goals as goal

pub loop-root-preserved : goal.loop-root-preserved
loop-root-preserved c =
    let none = replicate c.args.nodes false in
    let more = take_more c.args.roots.now c.loop-root.root-index (record { node = 0; complemented = false }) (omega arith) in
    rw (c.loop-root.invariant, more, with_marks-append) refl
