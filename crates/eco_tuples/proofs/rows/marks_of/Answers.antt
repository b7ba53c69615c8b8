-- The first input's edges are those that the others are held against.
use Rattle.std.proofs.Common.{◌∷◌, sym, ◌∙◌, subst}
use Rattle.std.proofs.lemmas.List.{length-map}
use Rattle.eco_meaning.specs.Circuit.{names}
use Rattle.eco_netlist.specs.Netlists.{name_at, names_at}
use Rattle.eco_gates.specs.declared.gate.NetId.{NetId}
use Rattle.eco_tuples.specs.Graphs.{AreValuesAt}
use Rattle.eco_tuples.specs.Rows.{AreSharedUnless, AreSteadyUnless}
use Rattle.eco_tuples.proofs.RowLaws.{shared_first, steady_by_edges}
use Rattle.eco_tuples.proofs.rows.marks_of.Goals as goal

pub returns-in_ok-marks-in-Some-clause-steady : goal.returns-in_ok-marks-in-Some-clause-steady
returns-in_ok-marks-in-Some-clause-steady c =
    let f = c.args.netlist.now in
    let signals = names_at (names f) c.args.signals.now in
    let first = c.in-Some.first.now in
    let rest = c.in-Some.rest.now in
    let edges = c.in_ok-edges-in-Some.edges.items in
    let marks = c.in_ok-marks-in-Some.marks.items in
    let old = c.edges_at.new.targets in
    let new = c.marks_beside.new.targets in
    let values = subst (λ bits. AreValuesAt f signals old bits edges) c.as_slice.ensures c.in_ok-edges-in-Some.ensures.values in
    let others = subst (λ list. AreSharedUnless f signals new rest list marks) c.as_slice-in-Some.ensures.value c.in_ok-marks-in-Some.ensures.shared in
    let shared = shared_first f signals old new first rest edges marks c.in_ok-marks-in-Some.ensures.stretches values others in
    subst (λ tuple. AreSteadyUnless f signals tuple marks) (sym c.in-Some.ensures.cases.0)
    (steady_by_edges f signals new (first ∷ rest) edges marks c.in_ok-marks-in-Some.ensures.targets (c.in_ok-edges-in-Some.ensures.count ∙ sym (length-map c.args.signals.now (λ (net : NetId). name_at (names f) net.0))) shared)
