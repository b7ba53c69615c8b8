-- What is known stays true where an input is added.
use Rattle.std.proofs.Common.{List, [], ◌∷◌, length, sym, subst}
use Rattle.eco_aig.specs.declared.node.Node.{Node}
use Rattle.eco_aig.specs.declared.node.Node.TheVariants.{Input}
use Rattle.eco_aig.specs.Swept.{IsSwept}
use Rattle.eco_aig.proofs.Standing.{swept_behind}
use Rattle.test_graphs.proofs.sweeping.images_apart.Goals as goal

pub image-requires-2 : goal.image-requires-2
image-requires-2 c =
    let old = c.image.new.aig in
    subst (λ (nodes : List Node). IsSwept nodes c.image.new.sweeper.map) (sym c.in_ok-_input.ensures.ok.1) (swept_behind old (Input (length old) ∷ []) c.image.new.sweeper.map c.image.ensures)
