-- What was gathered is sorted, and each literal stands once.
use Rattle.std.proofs.Common.{arith}
use Rattle.std.proofs.lemmas.List.Filters.{dedup_is}
use Rattle.eco_trace.proofs.SortLaws.{non_falling_next, order_of}
use Rattle.eco_learn.proofs.ChosenLaws.{chosen_from}
use Rattle.eco_learn.proofs.choosing.write_chosen.Goals as goal

pub returns : goal.returns
returns c = record {
  chosen =
      chosen_from c.args.trail.now.lits c.args.marks.now c.found.result.now c.choose_all.new.clause.items c.sort_unstable.new.self.items c.dedup.new.self.items c.is_sound.ensures.sound.apart c.found.ensures c.in_ok-choose_all.ensures c.sort_unstable.ensures.permutation
      (non_falling_next c.sort_unstable.new.self.items (λ k d lt. order_of _ _ _ (c.sort_unstable.ensures.sorted k d (omega arith) lt)))
      (dedup_is _ _ _ c.dedup.ensures.filtered);
}
