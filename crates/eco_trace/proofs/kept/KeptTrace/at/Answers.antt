use Rattle.std.proofs.Common.{Some, sym, ap, ◌∙◌, arith}
use Rattle.eco_trace.specs.KeptRows.{kept_learnt_of}
use Rattle.eco_trace.proofs.RowLaws.{row_at}
use Rattle.eco_trace.proofs.kept.KeptTrace.at.Goals as goal

pub returns-else-node-first : goal.returns-else-node-first
returns-else-node-first c =
    row_at (λ o. o.items) kept_learnt_of c.self.inside.originals.items c.self.inside.rows.items c.args.self.now c.args.node.0
    c.len-first.result _ c.self.view_is c.requires (omega arith) c.if-node-first.false c.index-row.ensures
    ∙ ap Some (sym c.as_slice-else-node-first.ensures.value)
