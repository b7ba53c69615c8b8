-- There are no copies.
use Rattle.std.proofs.Common.{List, [], sym, subst}
use Rattle.eco_aig.specs.declared.edge.Edge.{Edge}
use Rattle.eco_aig.specs.declared.node.Node.{Node}
use Rattle.eco_sweep.specs.Parts.{Mirrors}
use Rattle.eco_sweep.proofs.Copying.{mirrors_none}
use Rattle.eco_sweep.proofs.part.Part.new.Goals as goal

pub returns-clause-mirrors : goal.returns-clause-mirrors
returns-clause-mirrors c = λ whole nodes.
    subst (λ (copies : List Edge). Mirrors whole nodes c.in_ok-keyed.field-0 copies) (sym c.new.ensures.items) (subst (λ (part : List Node). Mirrors whole nodes part []) (sym c.in_ok-keyed.ensures.constant) (mirrors_none whole nodes))
