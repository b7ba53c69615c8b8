-- One more edge stands for a node.
use Rattle.std.proofs.Common.{sym, subst}
use Rattle.eco_affine.specs.Forms.{IsFormed}
use Rattle.eco_affine.proofs.forms.Forms.map_to.Goals as goal

pub put-requires-clause-swept : goal.put-requires-clause-swept
put-requires-clause-swept c =
    let known = subst (IsFormed c.args.aig.now) (sym c.self.view_is) c.requires.formed in
    known.swept
