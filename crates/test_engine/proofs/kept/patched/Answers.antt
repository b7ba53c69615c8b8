-- The patch may stand in the implementation.
use Rattle.std.proofs.Common.{◌∷◌, sym, subst}
use Rattle.eco_meaning.specs.Circuit.{Circuit}
use Rattle.eco_meaning.specs.Patch.{Fits}
use Rattle.eco_pose.proofs.SideLaws.{target_at}
use Rattle.test_engine.proofs.kept.patched.Goals as goal

pub splice-requires : goal.splice-requires
splice-requires g c =
    let front = c.args.front.now in
    let (before, target, behind, are, len) = target_at c.args.problem.now.implementation front.target c.requires.number in
    (target ∷ behind, subst (λ (n : Circuit). Fits n front.patch (target ∷ behind)) (sym c.implementation.ensures.value) (c.requires.before before target behind are len).fits)
