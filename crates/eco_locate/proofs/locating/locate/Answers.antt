-- Some input is wrong, whether it was simulated or found by the question.
use Rattle.std.proofs.Common.{◌≢◌, Bool, List, sym, subst, arith}
use Rattle.std.proofs.lemmas.Bool.{eqb-false}
use Rattle.eco_lists.proofs.Places.{All_at, item_at}
use Rattle.eco_meaning.specs.Meaning.{IsWrong}
use Rattle.eco_change.specs.Failing.{IsFailing}
use Rattle.eco_locate.specs.Comparing.{TellsFirst}
use Rattle.eco_locate.proofs.locating.locate.Goals as goal
use Rattle.eco_locate.proofs.locating.locate.Goals.{then-is_empty+in_ok-first+in-Some+in_ok-push, else-is_empty}

pub returns-clause-answer : goal.returns-clause-answer
returns-clause-answer g c =
    let f = c.args.change.now.old in
    let wanted = c.args.change.now.goal in
    let failing = c.in_ok-failing.failing in
    let wrong : (x : List Bool) × IsWrong f wanted x =
    elim c.if-is_empty.branch [
      | then-is_empty+in_ok-first+in-Some+in_ok-push w ↦
          let first = subst (TellsFirst f wanted) w.in-Some.is w.in_ok-first.ensures.failing in
          (w.in-Some.first.input, first.wrong)
      | else-is_empty w ↦
          let some : failing.len ≢ 0 = eqb-false failing.len 0 (sym w.if-is_empty.ensures) in
          let (first, at) = item_at failing.items 0 (omega (arith, some, failing.ok.0)) in
          (first.input, (All_at (IsFailing f wanted) failing.items 0 first c.in_ok-failing.ensures at).wrong)
    ] in
    (wrong, c.in_ok-located.ensures)
