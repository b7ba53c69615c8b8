-- Nothing is left to search, or one decision more, or the last one turned.
use Rattle.std.proofs.Common.{sym, subst}
use Rattle.eco_floor.specs.Search.{AreAbove, AreSettled, IsTurned}
use Rattle.eco_floor.proofs.Settled.{floor_from_none, settled_taken}
use Rattle.eco_floor.proofs.search.walk.Goals as goal
use Rattle.eco_floor.proofs.search.walk.Goals.{in-Above+in_ok-turn-in-Above+else-not-branch, in-Branch+in_ok-push-in-Branch}

pub returns-then-not-branch : goal.returns-then-not-branch
returns-then-not-branch c _ =
    let rows = c.args.rows.now in
    let weights = c.args.weights.now in
    let best = c.args.best in
    let above = subst (AreAbove rows weights best) c.as_slice.ensures.value (c.in_ok-look.ensures c.in-Above.is) in
    floor_from_none rows weights best
    (subst (IsTurned rows weights best c.turn.new.decisions.items) c.if-not-branch.true (c.in_ok-turn-in-Above.ensures rows weights best above c.loop.invariant))

pub loop-preserved : goal.loop-preserved
loop-preserved c =
    let rows = c.args.rows.now in
    let weights = c.args.weights.now in
    let best = c.args.best in
    elim c.match-branch-2.branch [
      | in-Above+in_ok-turn-in-Above+else-not-branch w ↦
          let above = subst (AreAbove rows weights best) c.as_slice.ensures.value (c.in_ok-look.ensures w.in-Above.is) in
          subst (λ decisions. AreSettled rows weights best decisions.items) (sym w.decisions-is)
          (subst (IsTurned rows weights best w.turn.new.decisions.items) w.if-not-branch.false (w.in_ok-turn-in-Above.ensures rows weights best above c.loop.invariant))
      | in-Branch+in_ok-push-in-Branch w ↦
          subst (λ decisions. AreSettled rows weights best decisions.items) (sym w.decisions-is)
          (subst (AreSettled rows weights best) (sym w.in_ok-push-in-Branch.ensures.items) (settled_taken rows weights best c.loop.decisions.items w.in-Branch.column c.loop.invariant))
    ]
