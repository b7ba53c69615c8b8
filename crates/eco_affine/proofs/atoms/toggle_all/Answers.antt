-- One more of the others.
use Rattle.eco_affine.specs.Forms.{parity}
use Rattle.eco_affine.proofs.Parities.{parity_more}
use Rattle.eco_affine.proofs.atoms.toggle_all.Goals as goal

pub loop-other-preserved : goal.loop-other-preserved
loop-other-preserved c =
    λ w. parity_more w c.args.others.now c.loop-other.atoms.items c.toggle.new.atoms.items c.loop-other.other-index (parity w c.args.atoms.now.items) c.loop-other-test.true (c.in_ok-toggle.ensures w) (c.loop-other.invariant w)
