use Rattle.std.proofs.Common.{arith}
use Rattle.std.proofs.lemmas.Grind.{common_steps}
use Rattle.eco_gen.proofs.Reading.{unread_yes, unread_no}
use Rattle.eco_gen.proofs.unread.unread_gates.Goals as goal
use Rattle.eco_gen.proofs.unread.unread_gates.Goals.{then-not-index+in_ok-push, else-not-index}

pub loop-gate-preserved : goal.loop-gate-preserved
loop-gate-preserved c =
    let mark = c.in_ok-marks.ensures.marked c.loop-gate.gate c.loop-gate-test.true in
    let seed = c.args.draws.now.seed in
    let size = c.args.draws.now.size in
    elim c.if-not-index.branch [
      | then-not-index+in_ok-push w ↦
          let yes = unread_yes seed size c.loop-gate.gate c.loop-gate.gates.items c.loop-gate.invariant in
          grind (arith, common_steps, yes, mark)
      | else-not-index w ↦
          let no = unread_no seed size c.loop-gate.gate c.loop-gate.gates.items c.loop-gate.invariant in
          grind (arith, common_steps, no, mark)
    ]
