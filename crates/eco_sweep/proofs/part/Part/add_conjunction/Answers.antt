-- The conjunction of the operands' copies is the node's copy.
use Rattle.std.proofs.Common.{List, sym, subst}
use Rattle.eco_aig.specs.declared.edge.Edge.{Edge}
use Rattle.eco_sweep.specs.Parts.{Mirrors}
use Rattle.eco_sweep.proofs.Copying.{mirrors_more, continues_and}
use Rattle.eco_sweep.proofs.part.Part.add_conjunction.Goals as goal

pub returns-clause-mirrors : goal.returns-clause-mirrors
returns-clause-mirrors c = λ whole nodes node next mirrors operands.
    let old = c.args.self.now.graph in
    let new = c.and.new.self in
    let copies = c.args.self.now.copies.items in
    let copy = c.in_ok-copy.copy in
    subst (λ (list : List Edge). Mirrors whole nodes new list) (sym c.in_ok-push.ensures.items) (mirrors_more whole nodes old new copies node copy next mirrors (continues_and whole nodes old new copies node c.args.first c.args.second copy c.nodes.ensures.graph c.nodes-2.ensures.graph c.and.ensures.grows operands c.in_ok-copy.ensures.value))
