-- The constants are edges of a graph.
use Rattle.std.proofs.Common.{[], sym, subst, inl, inr}
use Rattle.eco_aig.specs.Edges.{plain, complement}
use Rattle.eco_aig.specs.Graph.{HasValue}
use Rattle.eco_aig.proofs.Conjunctions.{zero_value, one_value}
use Rattle.eco_compile.specs.declared.join.Join.{Join}
use Rattle.eco_compile.specs.Joins.{joined}
use Rattle.eco_compile.proofs.join.neutral.Goals as goal

pub returns-in-All : goal.returns-in-All
returns-in-All c =
    subst (λ (way : Join). HasValue c.args.aig.now (complement (plain 0)) (λ w. joined way [])) (sym c.in-All.is) (one_value c.args.aig.now c.nodes.ensures.graph)

pub returns-in-Any : goal.returns-in-Any
returns-in-Any c =
    let nodes = c.args.aig.now in
    let zero = zero_value nodes c.nodes.ensures.graph in
    elim c.in-Any.is [
      | inl any ↦ subst (λ (way : Join). HasValue nodes (plain 0) (λ w. joined way [])) (sym any) zero
      | inr odd ↦ subst (λ (way : Join). HasValue nodes (plain 0) (λ w. joined way [])) (sym odd) zero
    ]
