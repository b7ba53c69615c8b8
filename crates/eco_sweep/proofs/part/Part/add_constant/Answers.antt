-- The constant is its own copy.
use Rattle.std.proofs.Common.{List, sym, subst}
use Rattle.eco_aig.specs.declared.edge.Edge.{Edge}
use Rattle.eco_aig.specs.Edges.{plain}
use Rattle.eco_sweep.specs.Parts.{Mirrors}
use Rattle.eco_sweep.proofs.Copying.{mirrors_more, continues_constant}
use Rattle.eco_sweep.proofs.part.Part.add_constant.Goals as goal

pub returns-clause-mirrors : goal.returns-clause-mirrors
returns-clause-mirrors c = λ whole nodes graph next mirrors.
    let part = c.args.self.now.graph in
    let copies = c.args.self.now.copies.items in
    subst (λ (list : List Edge). Mirrors whole nodes part list) (sym c.in_ok-push.ensures.items) (mirrors_more whole nodes part part copies 0 (plain 0) next mirrors (continues_constant whole nodes part copies graph c.nodes.ensures.graph))
