-- The cared netlist has one output.
use Rattle.std.proofs.Common.{Some, sym, subst}
use Rattle.eco_gates.specs.declared.gate.NetId.{NetId}
use Rattle.eco_compile.specs.Bound.{IsCaredEdge}
use Rattle.eco_compile.proofs.Asked.{cared_is}
use Rattle.eco_compile.proofs.goals.output_edge.Goals as goal

pub closed_edges-requires-clause-inputs : goal.closed_edges-requires-clause-inputs
closed_edges-requires-clause-inputs c = λ name is. (c.requires.care.inputs name).1 is

pub returns-clause-cared : goal.returns-clause-cared
returns-clause-cared c =
    let f = c.args.f.now in
    let care = c.args.care.now in
    let table = c.args.table.now in
    let nodes = c.closed_edges.new.aig in
    let none : NetId = record { 0 = 0 } in
    subst (IsCaredEdge f (Some care) table nodes) (sym c.index.ensures)
    (cared_is f care table c.in_ok-edges.edges.items nodes c.outputs.result.now none c.index.result.now c.requires.care c.outputs.ensures.named c.outputs.ensures.within c.in_ok-edges.ensures.edges c.in_ok-edges.ensures.length c.in_ok-edges.ensures.values)
