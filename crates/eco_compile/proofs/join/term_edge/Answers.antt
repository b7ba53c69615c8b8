-- The constants are edges of a graph.
use Rattle.std.proofs.Common.{sym, subst}
use Rattle.eco_gates.specs.declared.gate.Term.{Term}
use Rattle.eco_gates.specs.Evaluation.{term_value}
use Rattle.eco_aig.specs.Edges.{plain, complement, bits_of}
use Rattle.eco_aig.specs.Graph.{HasValue}
use Rattle.eco_aig.proofs.Conjunctions.{zero_value, one_value}
use Rattle.eco_compile.proofs.join.term_edge.Goals as goal

pub returns-in-Zero : goal.returns-in-Zero
returns-in-Zero c =
    subst (λ (term : Term). HasValue c.args.aig.now (plain 0) (λ w. term_value (bits_of w c.args.edges.now) term)) (sym c.in-Zero.is) (zero_value c.args.aig.now c.nodes.ensures.graph)

pub returns-in-One : goal.returns-in-One
returns-in-One c =
    subst (λ (term : Term). HasValue c.args.aig.now (complement (plain 0)) (λ w. term_value (bits_of w c.args.edges.now) term)) (sym c.in-One.is) (one_value c.args.aig.now c.nodes.ensures.graph)
