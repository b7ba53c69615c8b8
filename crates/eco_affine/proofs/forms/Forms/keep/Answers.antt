-- One more form.
use Rattle.std.proofs.Common.{sym, subst, arith}
use Rattle.eco_affine.specs.Forms.{IsFormed}
use Rattle.eco_affine.proofs.Standing.{formed_push}
use Rattle.eco_affine.proofs.forms.Forms.keep.Goals as goal

pub returns-clause-formed : goal.returns-clause-formed
returns-clause-formed c = λ nodes value formed.
    formed_push nodes c.self.inside.map c.self.inside.limit c.self.inside.forms.items c.push.new.self.items (record { edge = c.args.edge; atoms = c.args.atoms }) (subst (IsFormed nodes) (sym c.self.view_is) formed) value (omega arith) c.in_ok-push.ensures.items
