-- The turn is to the same target still.
use Rattle.std.proofs.Common.{sym, subst}
use Rattle.eco_meaning.specs.Circuit.{Circuit, names}
use Rattle.eco_netlist.specs.Netlists.{names_at}
use Rattle.eco_pose.specs.Questions.{AtTarget, IsSeparable}
use Rattle.eco_desk.proofs.separating.pose_turned.Goals as goal

pub pose_separate-requires-clause-separable : goal.pose_separate-requires-clause-separable
pose_separate-requires-clause-separable c =
    let f = c.args.problem.now.implementation in
    let old = c.args.turn.now in
    let new = c.swept_pair.new.turn in
    let base = names_at (names f) c.args.base.now in
    subst (λ i. AtTarget f i (IsSeparable f new.patches base c.args.rest.now)) (sym c.swept_pair.ensures.number)
    (subst (λ (p : Circuit). AtTarget f old.number (IsSeparable f p base c.args.rest.now)) (sym c.swept_pair.ensures.patches) c.requires.askable.2)
