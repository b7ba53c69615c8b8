-- The patch fits, so it can be put into the implementation.
use Rattle.std.proofs.Common.{[], sym, subst}
use Rattle.eco_meaning.specs.Circuit.{Circuit}
use Rattle.eco_meaning.specs.Patch.{Fits}
use Rattle.eco_audit.proofs.making.is_splice.Goals as goal

pub splice-requires : goal.splice-requires
splice-requires c = ([], subst (λ (f : Circuit). Fits f c.args.patch.now []) (sym c.implementation.ensures.value) c.requires)
