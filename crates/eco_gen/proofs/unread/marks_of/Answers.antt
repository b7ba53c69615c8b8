use Rattle.std.proofs.Common.{false, sym, ◌∙◌}
use Rattle.std.proofs.lemmas.List.{get_or-replicate, length-replicate}
use Rattle.eco_gen.proofs.Reading.{none_read}
use Rattle.eco_gen.proofs.unread.marks_of.Goals as goal

pub loop-gate-init : goal.loop-gate-init
loop-gate-init c = record {
  len = rw (c.in_ok-marks.ensures.items_if_clones_equal (λ y e. e)) (length-replicate c.args.draws.now.size false);
  marked = λ k lt.
      rw (c.in_ok-marks.ensures.items_if_clones_equal (λ y e. e))
      (get_or-replicate c.args.draws.now.size k false false lt ∙ sym (none_read c.args.draws.now.seed k));
}
