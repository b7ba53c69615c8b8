-- What is asked, by the specification's outputs and the cared netlist's.
use Rattle.std.proofs.Common.{subst}
use Rattle.std.specs.Option.{option_copied}
use Rattle.eco_meaning.specs.Meaning.{Goal}
use Rattle.eco_compile.specs.Bound.{AreWanted, IsCaredEdge}
use Rattle.eco_compile.specs.Goals.{care_nodes}
use Rattle.eco_compile.proofs.Asked.{asked_are}
use Rattle.eco_compile.proofs.goals.goal_edges.Goals as goal

pub wanted_edges-requires-clause-inputs : goal.wanted_edges-requires-clause-inputs
wanted_edges-requires-clause-inputs c = λ name. (c.requires.goal.inputs name).0

pub wanted_edges-requires-clause-no_others : goal.wanted_edges-requires-clause-no_others
wanted_edges-requires-clause-no_others c = λ name. (c.requires.goal.inputs name).1

pub wanted_edges-requires-clause-outputs : goal.wanted_edges-requires-clause-outputs
wanted_edges-requires-clause-outputs c = λ name. (c.requires.goal.outputs name).0

pub returns-clause-edges : goal.returns-clause-edges
returns-clause-edges c =
    let f = c.args.f.now in
    let care = option_copied c.args.care in
    let goal : Goal = record { spec = c.args.spec.now; care = care } in
    let inputs = c.args.inputs.now in
    let outputs = c.in_ok-outputs.outputs.items in
    let given = c.in_ok-table.ensures.inputs in
    let wanted : AreWanted f c.args.spec.now c.in_ok-table.table.items c.wanted_edges.new.aig outputs = subst (λ table. AreWanted f c.args.spec.now table c.wanted_edges.new.aig outputs) c.as_slice.ensures.value c.in_ok-outputs.ensures.wanted in
    let cared : IsCaredEdge f care c.in_ok-table.table.items c.cared_edge.new.aig c.in_ok-cared.cared = subst (λ table. IsCaredEdge f care table c.cared_edge.new.aig c.in_ok-cared.cared) c.as_slice-2.ensures.value c.in_ok-cared.ensures.cared in
    asked_are f goal c.in_ok-table.table.items inputs outputs c.wanted_edges.new.aig c.cared_edge.new.aig (care_nodes care) c.in_ok-cared.cared given wanted c.cared_edge.ensures.grows cared
