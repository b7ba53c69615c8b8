-- Each turn has learnt one clause more, or ends.
use Rattle.std.proofs.Common.{◌≡◌, subst, ◌∙◌, arith}
use Rattle.eco_trace.specs.Verdicts.{IsSpent}
use Rattle.eco_cdcl.specs.Steps.{IsTurned}
use Rattle.eco_cdcl.proofs.Turning.{refuted_within, solved, spent_more}
use Rattle.eco_cdcl.proofs.search.Search.turns.Goals as goal

pub returns-in-Solved-clause-ended : goal.returns-in-Solved-clause-ended
returns-in-Solved-clause-ended g c = λ cnf begun.
    let n = c.turn.new.self in
    let w = n.watching in
    let turned = subst (IsTurned c.loop-learnt.trace c.turn.new.trace w.trail w.done w.pairs w.lists n.learner.vars) c.in-Solved.is c.in_ok-turn.ensures.turned in
    solved cnf c.loop-learnt.trace c.turn.new.trace w.trail.lits (c.loop-learnt.invariant.spent cnf begun).originals turned.0 turned.1

pub returns-in-Refuted-clause-ended : goal.returns-in-Refuted-clause-ended
returns-in-Refuted-clause-ended g c = λ cnf begun.
    let n = c.turn.new.self in
    let w = n.watching in
    let turned = subst (IsTurned c.loop-learnt.trace c.turn.new.trace w.trail w.done w.pairs w.lists n.learner.vars) c.in-Refuted.is c.in_ok-turn.ensures.turned in
    refuted_within cnf c.loop-learnt._learnt c.args.limit c.loop-learnt.trace c.turn.new.trace (c.loop-learnt.invariant.spent cnf begun) (omega arith) turned

pub loop-learnt-preserved : goal.loop-learnt-preserved
loop-learnt-preserved g c =
    let n = c.turn.new.self in
    let w = n.watching in
    let turned = subst (IsTurned c.loop-learnt.trace c.turn.new.trace w.trail w.done w.pairs w.lists n.learner.vars) c.in-Learns.is c.in_ok-turn.ensures.turned in
    record {
      on = turned.1;
      vars = c.in_ok-turn.ensures.vars ∙ c.loop-learnt.invariant.vars;
      spent = λ cnf begun. spent_more cnf c.loop-learnt._learnt c.loop-learnt.trace c.turn.new.trace (c.loop-learnt.invariant.spent cnf begun) turned.0;
    }

pub returns-clause-ended : goal.returns-clause-ended
returns-clause-ended g c = λ cnf begun.
    let all : c.loop-learnt._learnt ≡ c.args.limit = omega arith in
    subst (λ n. IsSpent cnf n c.loop-learnt.trace) all (c.loop-learnt.invariant.spent cnf begun)
