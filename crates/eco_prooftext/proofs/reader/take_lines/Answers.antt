use Rattle.std.proofs.Common.{None, map}
use Rattle.std.proofs.lemmas.Bool.{MatchBool-at_false}
use Rattle.eco_prooftext.specs.Reading.{Follows}
use Rattle.eco_prooftext.proofs.LineReadLaws.{step_stuck, stuck_refused}
use Rattle.eco_prooftext.proofs.reader.take_lines.Goals as goal

pub returns-then-not-branch-clause-fault : goal.returns-then-not-branch-clause-fault
returns-then-not-branch-clause-fault c =
    stuck_refused (map (λ line. line.now) c.args.lines.now)
    (step_stuck Follows (λ line. line.now) None _ c.args.lines.now c.loop-place.place _ c.loop-place-test.true c.loop-place.invariant
    (MatchBool-at_false _ _ c.if-not-branch.true c.in_ok-take_line.ensures))
