-- The atom is taken out, or put in.
use Rattle.std.proofs.Common.{◌∙◌, ap}
use Rattle.eco_affine.specs.Forms.{parity}
use Rattle.eco_affine.proofs.Parities.{parity_insert, parity_remove}
use Rattle.eco_affine.proofs.atoms.toggle.Goals as goal

pub returns-in-Ok : goal.returns-in-Ok
returns-in-Ok c =
    λ w. ap (parity w) c.remove.ensures.items ∙ parity_remove w c.args.atoms.now.items c.as_slice.result.now c.in-Ok.place c.args.atom c.as_slice.ensures.value c.in-Ok.ensures.bound (c.in-Ok.ensures.ok 0)

pub returns-in_ok-insert-in-Err : goal.returns-in_ok-insert-in-Err
returns-in_ok-insert-in-Err c =
    λ w. ap (parity w) c.in_ok-insert-in-Err.ensures.items ∙ parity_insert w c.args.atoms.now.items c.in-Err.place c.args.atom
