-- What is asserted asks the question.
use Rattle.std.proofs.Common.{length, sym, ◌∙◌, ap, subst}
use Rattle.eco_netlist.proofs.MisfitLemmas.{targets_unique}
use Rattle.eco_compile.specs.Compiled.{AreEdges}
use Rattle.eco_pose.proofs.MissLaws.{AreModelsOf, AreAnswersOf}
use Rattle.eco_tuples.proofs.SideLaws.{edges_are, asks_throughout}
use Rattle.eco_tuples.proofs.posing.clash_side.Goals as goal

pub one_side-requires-clause-asserted : goal.one_side-requires-clause-asserted
one_side-requires-clause-asserted c =
    let problem = c.args.problem.now in
    let graph = c.right_edges.new.targets in
    let (targets, are, count) = c.in_ok-right.ensures.targets.count in
    subst (AreEdges graph.graph) (sym c.as_slice-2.ensures.value)
    (edges_are problem.implementation problem.goal targets graph.graph graph.opens.items c.args.tuple.now c.in_ok-right.right.items (c.in_ok-right.ensures.edges targets are))

pub returns-clause-asks : goal.returns-clause-asks
returns-clause-asks c targets are =
    let problem = c.args.problem.now in
    let f = problem.implementation in
    let graph = c.right_edges.new.targets in
    let right = c.in_ok-right.right.items in
    let lits = c.in_ok-side.side.inputs.items in
    let clauses = c.in_ok-side.side.cnf.clauses in
    let (counted, are_counted, count) = c.in_ok-right.ensures.targets.count in
    asks_throughout f problem.goal targets graph.graph graph.opens.items c.args.tuple.now right lits clauses c.in_ok-right.ensures.targets.inputs
    (sym (ap length (targets_unique f targets counted are are_counted) ∙ count)) (c.in_ok-right.ensures.edges targets are)
    (subst (λ edges. AreModelsOf graph.graph edges right lits clauses) c.as_slice.ensures.value
    (subst (λ edges. AreModelsOf graph.graph c.as_slice.result.now edges lits clauses) c.as_slice-2.ensures.value c.in_ok-side.ensures.models))
    (subst (λ edges. AreAnswersOf graph.graph edges right lits clauses) c.as_slice.ensures.value
    (subst (λ edges. AreAnswersOf graph.graph c.as_slice.result.now edges lits clauses) c.as_slice-2.ensures.value c.in_ok-side.ensures.answers))
