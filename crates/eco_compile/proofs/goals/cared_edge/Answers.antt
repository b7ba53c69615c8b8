-- The cared netlist, or none.
use Rattle.std.proofs.Common.{sym, ap, subst}
use Rattle.std.specs.Option.{option_copied}
use Rattle.eco_aig.specs.Edges.{plain, complement}
use Rattle.eco_compile.specs.Bound.{IsCaredEdge}
use Rattle.eco_compile.proofs.Asked.{cared_everywhere}
use Rattle.eco_compile.proofs.goals.cared_edge.Goals as goal

pub output_edge-requires-clause-care : goal.output_edge-requires-clause-care
output_edge-requires-clause-care c = c.requires.care c.in-Some.netlist.now (ap option_copied c.in-Some.is)

pub returns-in-None-clause-cared : goal.returns-in-None-clause-cared
returns-in-None-clause-cared c =
    subst (λ care. IsCaredEdge c.args.f.now care c.args.table.now c.args.aig.now (complement (plain 0))) (sym (ap option_copied c.in-None.is)) (cared_everywhere c.args.f.now c.args.table.now c.args.aig.now c.nodes.ensures.graph)
