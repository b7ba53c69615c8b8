-- One more node keeps its mark.
use Rattle.std.proofs.Common.{ℕ, refl, arith}
use Rattle.std.proofs.lemmas.List.Elements.{All-contains}
use Rattle.eco_splice.specs.Tables.{HasMark}
use Rattle.eco_splice.proofs.TableLemmas.{all_more, all_end}
use Rattle.eco_splice.proofs.readiness.are_marked.Goals as goal

pub loop-node-preserved : goal.loop-node-preserved
loop-node-preserved c =
    all_more (λ (node : ℕ). HasMark c.args.first.now node → HasMark c.args.second.now node) c.args.nodes.now c.loop-node.node-index 0 (omega arith) c.loop-node.invariant (c.keeps_mark.ensures.0 c.if-not-keeps_mark.false)

pub returns : goal.returns
returns c =
    let keeps = λ (node : ℕ). HasMark c.args.first.now node → HasMark c.args.second.now node in (
      λ is node member. All-contains keeps c.args.nodes.now node (all_end keeps c.args.nodes.now c.loop-node.node-index (omega arith) c.loop-node.invariant) member,
      λ all. refl,
    )
