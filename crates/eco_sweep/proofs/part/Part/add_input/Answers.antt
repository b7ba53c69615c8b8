-- The new input is the node's copy.
use Rattle.std.proofs.Common.{List, sym, subst}
use Rattle.eco_aig.specs.declared.edge.Edge.{Edge}
use Rattle.eco_sweep.specs.Parts.{Mirrors}
use Rattle.eco_sweep.proofs.Copying.{mirrors_more, continues_input}
use Rattle.eco_sweep.proofs.part.Part.add_input.Goals as goal

pub returns-clause-mirrors : goal.returns-clause-mirrors
returns-clause-mirrors c = λ whole nodes next mirrors.
    let old = c.args.self.now.graph in
    let new = c.input.new.self in
    let copies = c.args.self.now.copies.items in
    let copy = c.in_ok-copy.copy in
    subst (λ (list : List Edge). Mirrors whole nodes new list) (sym c.in_ok-push.ensures.items) (mirrors_more whole nodes old new copies c.args.node copy next mirrors (continues_input whole nodes old new copies c.args.node copy c.nodes.ensures.graph c.nodes-2.ensures.graph c.in_ok-copy.ensures.ok.0 c.in_ok-copy.ensures.ok.1))
