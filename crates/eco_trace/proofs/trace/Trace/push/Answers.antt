use Rattle.std.proofs.Common.{refl, sym, arith}
use Rattle.eco_trace.proofs.RowLaws.{stored_row, learns_row}
use Rattle.eco_trace.proofs.trace.Trace.push.Goals as goal

pub invariant_of-self-2 : goal.invariant_of-self-2
invariant_of-self-2 c =
    stored_row _ _ _ _ c.args.start c.args.links.now c.args.clause.now c.in_ok-push.ensures.items refl c.in_ok-links.ensures
    c.in_ok-clause.ensures c.args.self.now (sym c.self.view_is) c.self.invariant c.requires.given (omega arith)

pub returns-clause-learnt : goal.returns-clause-learnt
returns-clause-learnt c =
    learns_row _ _ _ _ c.args.start c.args.links.now c.args.clause.now c.in_ok-push.ensures.items refl c.in_ok-links.ensures
    c.in_ok-clause.ensures c.args.self.now (sym c.self.view_is) c.requires.given
