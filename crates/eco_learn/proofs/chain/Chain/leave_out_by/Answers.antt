-- The reason's variables are within, and no mark is new.
use Rattle.std.proofs.Common.{length}
use Rattle.std.proofs.lemmas.Result.{on_ok_weaker}
use Rattle.eco_trace.specs.Resolution.{clauses_of}
use Rattle.eco_learn.proofs.StepLaws.{reason_within, walked_without}
use Rattle.eco_learn.proofs.chain.Chain.leave_out_by.Goals as goal

pub covers-requires : goal.covers-requires
covers-requires c =
    record { within = reason_within (clauses_of c.args.trace.now) c.args.trail.now c.args.other c.args.node c.clause.result.now (length c.args.self.now.marks) c.is_sound.ensures.sound c.requires.reason c.clause.ensures.clause c.requires.so_far.long }

pub returns-clause-walked : goal.returns-clause-walked
returns-clause-walked c =
    on_ok_weaker c.resolve.result (λ step. walked_without (clauses_of c.args.trace.now) c.args.trail.now c.args.place c.args.other c.args.node c.clause.result.now c.args.self.now.marks c.resolve.new.self.marks c.is_sound.ensures.sound c.requires.apart c.clause.ensures.clause (c.covers.ensures.0 c.if-not-covers.false) step c.requires.walked) c.resolve.ensures.step
