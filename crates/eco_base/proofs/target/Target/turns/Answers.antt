-- The columns behind the paid ones are the usual turns.
use Rattle.std.proofs.Common.{drop, sym, ◌∙◌, ap, subst}
use Rattle.eco_meaning.specs.Cost.{AreTurns}
use Rattle.eco_pose.specs.Questions.{AtTarget}
use Rattle.eco_base.specs.Asking.{names_here}
use Rattle.eco_base.specs.Targets.{TargetValue, named_in, paid_of, target_value}
use Rattle.eco_base.proofs.TurnLaws.{none_last}
use Rattle.eco_base.proofs.target.Target.turns.Goals as goal

pub returns-clause-turns : goal.returns-clause-turns
returns-clause-turns g c =
    let stage = c.self.inside.stage in
    let nets = c.split_at.result.1.now in
    let problem = stage.problem.now in
    let back = c.split_at.ensures.back ∙ ap (drop stage.paid) c.as_slice.ensures.value in
    subst (λ (t : TargetValue). AtTarget t.problem.implementation t.number (λ before target behind. AreTurns t.problem.implementation t.problem.weights t.problem.input_weight before (paid_of t) (named_in t nets))) c.self.view_is
    (λ before target behind are len.
    let here = c.self.invariant.order before target behind are len in
    subst (AreTurns problem.implementation problem.weights problem.input_weight before (paid_of (target_value c.self.inside.engine stage)))
    (sym (here.put ∙ none_last here.usual) ∙ sym (ap (names_here stage) back)) here.are_turns)
