-- No images, and the constant alone is kept.
use Rattle.std.proofs.Common.{◌≡◌, Option, None, length, replicate, ◌∙◌, ap, rules}
use Rattle.eco_aig.specs.declared.edge.Edge.{Edge}
use Rattle.eco_merge.specs.Steps.{undone}
use Rattle.eco_merge.proofs.Beginning.{ready_start, merged_start}
use Rattle.eco_merge.proofs.Reducing.{undone_all}
use Rattle.eco_merge.proofs.merging.Merging.new.Goals as goal
use Rattle.eco_merge.proofs.merging.Merging.new.Goals.{In_ok-findings}

no_images : (c : In_ok-findings) → c.in_ok-images.images.items ≡ replicate (length c.args.aig.now) None
no_images c =
    let all : c.in_ok-images.images.items ≡ replicate c.nodes.result None = search rules in
    all ∙ ap (λ n. replicate {A = Option Edge} n None) c.nodes.ensures.count

pub returns-clause-ready : goal.returns-clause-ready
returns-clause-ready c limit =
    ready_start c.args.aig.now limit _ c.nodes.ensures.graph (no_images c) c.in_ok-kept.ensures.items c.in_ok-findings.ensures.rows c.in_ok-findings.ensures.signed c.in_ok-findings.ensures.apart

pub returns-clause-merged : goal.returns-clause-merged
returns-clause-merged c =
    merged_start c.args.aig.now _ c.nodes.ensures.graph (no_images c) c.in_ok-kept.ensures.items

pub returns-clause-undone : goal.returns-clause-undone
returns-clause-undone c = ap undone (no_images c) ∙ undone_all (length c.args.aig.now)
