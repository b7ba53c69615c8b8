-- No rests are listed.
use Rattle.std.proofs.Common.{sym, subst}
use Rattle.eco_base.specs.Scenes.{AtScene}
use Rattle.eco_base.specs.Asking.{AreRests}
use Rattle.eco_base.proofs.RestLaws.{no_rests}
use Rattle.eco_base.proofs.conflicting.conflict_at.Goals as goal

pub settle-requires-clause-rests : goal.settle-requires-clause-rests
settle-requires-clause-rests g c =
    let stage = c.args.stage.now in
    subst (λ rests. AtScene stage (λ s. AreRests s rests)) (sym c.new-rests.ensures.items) (no_rests stage)
