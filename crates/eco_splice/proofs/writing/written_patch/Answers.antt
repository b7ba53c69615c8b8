-- Edges of lines beyond the graph.
use Rattle.std.proofs.Common.{◌<◌, sym, ◌∙◌, subst}
use Rattle.std.specs.List.{All}
use Rattle.std.proofs.lemmas.Bool.{false≢true}
use Rattle.eco_aig.specs.declared.edge.Edge.{Edge}
use Rattle.eco_splice.specs.LineGates.{edges_in}
use Rattle.eco_splice.proofs.TableLemmas.{edges_within}
use Rattle.eco_splice.proofs.writing.written_patch.Goals as goal

pub returns-then-not-are_within-clause-exactly : goal.returns-then-not-are_within-clause-exactly
returns-then-not-are_within-clause-exactly c = (
  λ no. absurd (false≢true no),
  λ ready.
      let within = edges_within c.args.roots.now.aig.now c.args.lines.now c.nodes-nodes.ensures.graph ready.within in
      let all = subst (All (λ (e : Edge). e.node < c.nodes-nodes.result)) (sym (c.as_slice.ensures.value ∙ c.in_ok-edges.ensures)) (subst (λ n. All (λ (e : Edge). e.node < n) (edges_in c.args.roots.now.aig.now c.args.lines.now)) (sym c.nodes-nodes.ensures.count) within) in
      sym c.if-not-are_within.true ∙ c.are_within.ensures.1 all,
)
