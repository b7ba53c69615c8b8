-- The others so far were added.
use Rattle.std.proofs.Common.{◌≡◌, ℕ, Bool, take}
use Rattle.eco_lists.specs.Bits.{exactly_one}
use Rattle.eco_affine.specs.Forms.{parity}
use Rattle.eco_affine.proofs.atoms.toggle_all.Given as goal

abbrev pub invariant-loop-other : goal.invariant-loop-other
invariant-loop-other l = (w : ℕ → Bool) → parity w l.atoms.items ≡ exactly_one (parity w (take l.other-index l.others)) (parity w l.fn.atoms.items)
