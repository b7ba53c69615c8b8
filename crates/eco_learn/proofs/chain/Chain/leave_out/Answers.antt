-- The literal is marked, and its reason forces it.
use Rattle.std.proofs.Common.{true, false, sym, ◌∙◌}
use Rattle.std.proofs.lemmas.Bool.{false≢true}
use Rattle.eco_lists.proofs.Places.{slice_get_from_get_or}
use Rattle.eco_trace.specs.Resolution.{clauses_of}
use Rattle.eco_learn.proofs.StepLaws.{reason_at}
use Rattle.eco_learn.proofs.chain.Chain.leave_out.Goals as goal

pub leave_out_by-requires-clause-reason : goal.leave_out_by-requires-clause-reason
leave_out_by-requires-clause-reason c =
    reason_at (clauses_of c.args.trace.now) c.args.trail.now c.args.other c.lit.result c.in-Some.node c.requires.justified c.lit.ensures c.in-Some.ensures

pub leave_out_by-requires-clause-seen : goal.leave_out_by-requires-clause-seen
leave_out_by-requires-clause-seen c = record {
  lit = c.lit.result;
  lit_at = c.lit.ensures;
  seen = slice_get_from_get_or c.args.self.now.marks c.lit.result.var.0 false true (sym c.has.ensures ∙ c.if-not-has.false) false≢true;
}
