-- At first no class has another row, and one more row has its class.
use Rattle.std.proofs.Common.{length, sym, ◌∙◌, ap}
use Rattle.std.specs.List.{slice_get}
use Rattle.eco_cover.specs.Classes.{AreTogether}
use Rattle.eco_cover.proofs.Splitting.{classes_more, count_more}
use Rattle.eco_cover.proofs.classes.split.Goals as goal

pub loop-row-preserved : goal.loop-row-preserved
loop-row-preserved c =
    let classes = c.args.classes.now in
    let R = AreTogether classes c.args.bits.now in
    let split = c.loop-row.split.items in
    let more = classes_more (length classes) R split c.loop-row.row c.class_of.result c.loop-row.invariant.count c.loop-row.invariant.firsts c.class_of.ensures.class in
    record {
      others = c.class_of.ensures.others;
      count = ap length c.in_ok-push.ensures.items ∙ count_more split c.class_of.result c.loop-row.row c.loop-row.invariant.count;
      firsts = λ k first at. more k first (sym (ap (λ list. slice_get list k) c.in_ok-push.ensures.items) ∙ at);
    }
