-- The place has a reason, and a step is made with it.
use Rattle.std.proofs.Common.{length, arith}
use Rattle.std.proofs.lemmas.Result.{on_ok_weaker}
use Rattle.eco_trace.specs.Resolution.{clauses_of}
use Rattle.eco_learn.proofs.StepLaws.{step_behind, step_before, reason_at, decision_at}
use Rattle.eco_learn.proofs.chain.Chain.resolve_at.Goals as goal

pub unreachable-requires : goal.unreachable-requires
unreachable-requires c =
    c.requires.forced c.args.place (omega arith) (omega arith) (decision_at (clauses_of c.args.trace.now) c.args.trail.now c.args.place c.requires.seen.lit c.requires.justified c.requires.seen.lit_at c.in-None.ensures)

pub resolve-requires-clause-reason : goal.resolve-requires-clause-reason
resolve-requires-clause-reason c =
    reason_at (clauses_of c.args.trace.now) c.args.trail.now c.args.place c.requires.seen.lit c.in-Some.node c.requires.justified c.requires.seen.lit_at c.in-Some.ensures

pub returns-clause-behind : goal.returns-clause-behind
returns-clause-behind c = λ behind.
    let why = reason_at (clauses_of c.args.trace.now) c.args.trail.now c.args.place c.requires.seen.lit c.in-Some.node c.requires.justified c.requires.seen.lit_at c.in-Some.ensures in
    on_ok_weaker c.resolve.result (λ step. step_behind (clauses_of c.args.trace.now) c.args.trail.now c.args.place (length c.args.trail.now.lits) c.in-Some.node c.args.self.now.marks c.resolve.new.self.marks c.is_sound.ensures.sound why step behind) c.resolve.ensures.step

pub returns-clause-before : goal.returns-clause-before
returns-clause-before c = λ other lt seen.
    on_ok_weaker c.resolve.result (λ step. step_before (clauses_of c.args.trace.now) c.args.trail.now c.args.place other c.in-Some.node c.args.self.now.marks c.resolve.new.self.marks c.is_sound.ensures.sound step lt seen) c.resolve.ensures.step
