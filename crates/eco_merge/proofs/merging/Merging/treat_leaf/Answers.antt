-- The leaf is kept, and is its own image.
use Rattle.std.proofs.Common.{Some, set, ap}
use Rattle.eco_aig.specs.Edges.{plain}
use Rattle.eco_merge.specs.declared.merging.Merging.{Merging}
use Rattle.eco_merge.proofs.Treating.{leaf_ready, leaf_merged}
use Rattle.eco_merge.proofs.merging.Merging.treat_leaf.Goals as goal

pub returns-clause-ready : goal.returns-clause-ready
returns-clause-ready c = λ limit ready.
    leaf_ready c.args.aig.now limit c.args.node c.args.self.now _ ready c.requires.untreated c.requires.leaf c.in_ok-keep.ensures.kept (ap (λ (m : Merging). set m.images.items c.args.node (Some (plain c.args.node))) c.in_ok-keep.ensures.rest) (ap (λ (m : Merging). m.findings) c.in_ok-keep.ensures.rest)

pub returns-clause-merged : goal.returns-clause-merged
returns-clause-merged c = λ old roots is reached.
    leaf_merged old roots c.args.aig.now c.args.self.now _ c.args.node c.nodes.ensures.graph is reached c.requires.untreated c.requires.leaf c.in_ok-keep.ensures.kept (ap (λ (m : Merging). set m.images.items c.args.node (Some (plain c.args.node))) c.in_ok-keep.ensures.rest)
