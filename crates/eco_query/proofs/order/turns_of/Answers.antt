use Rattle.std.proofs.Common.{◌≡◌, Some, false, get_or, length, sym, ◌∙◌, ap, subst, arith}
use Rattle.std.specs.List.{slice_get}
use Rattle.std.proofs.lemmas.Option.{slice_get-get_or}
use Rattle.eco_meaning.specs.Circuit.{Circuit, names}
use Rattle.eco_gates.specs.declared.gate.NetId.{NetId}
use Rattle.eco_query.specs.Candidates.{AreFirstTurns}
use Rattle.eco_query.proofs.FirstTurns.{no_turns, turns_skip, turns_more}
use Rattle.eco_query.proofs.order.turns_of.Goals as goal
use Rattle.eco_query.proofs.order.turns_of.Goals.{in-Some+in_ok-push, in_default}

pub loop-net-init : goal.loop-net-init
loop-net-init c =
    let p = c.args.problem.now in
    subst (AreFirstTurns p.implementation p.weights p.input_weight c.args.i c.args.marks.now 0) (sym c.new-turns.ensures.items)
    (no_turns p.implementation p.weights p.input_weight c.args.i c.args.marks.now)

pub loop-net-preserved : goal.loop-net-preserved
loop-net-preserved c =
    let p = c.args.problem.now in
    let marks = c.args.marks.now in
    let at = c.loop-net.net in
    let old = c.loop-net.turns.items in
    let mark = get_or marks at false in
    let count : length (names c.implementation.result.now) ≡ length (names p.implementation) =
    ap (λ (f : Circuit). length (names f)) c.implementation.ensures.value in
    let marked : slice_get marks at ≡ Some mark = slice_get-get_or marks at false (omega arith) in
    let checked = c.implementation.ensures.problem.implementation in
    elim c.match-turn_of.branch [
      | in-Some+in_ok-push w ↦
          let here = ap (λ (net : NetId). net.0) w.in-Some.ensures.0 in
          turns_more p.implementation p.weights p.input_weight c.args.i marks at old c.match-turn_of.turns.items w.in-Some.turn
          checked.distinct w.in-Some.ensures.2 here (ap (slice_get marks) here ∙ marked ∙ ap Some w.in-Some.ensures.1)
          (rw w.turns-is w.in_ok-push.ensures.items) c.loop-net.invariant
      | in_default w ↦
          rw w.turns-is (turns_skip p.implementation p.weights p.input_weight c.args.i marks at old mark marked w.in_default.ensures c.loop-net.invariant)
    ]
