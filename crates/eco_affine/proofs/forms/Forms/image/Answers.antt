-- What stands for nodes has their values.
use Rattle.std.proofs.Common.{sym, subst}
use Rattle.eco_affine.specs.Forms.{IsFormed}
use Rattle.eco_affine.proofs.forms.Forms.image.Goals as goal

pub returns : goal.returns
returns c = λ nodes edge formed.
    let known = subst (IsFormed nodes) (sym c.self.view_is) formed in
    c.image_of.ensures.value nodes edge known.swept
