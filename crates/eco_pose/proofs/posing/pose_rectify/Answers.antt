-- The clauses ask of the problem's own netlists.
use Rattle.std.proofs.Common.{◌+◌, ◌*◌, ◌≤◌, length, ◌≡◌, arith, sym, subst}
use Rattle.std.specs.Option.{option_copied}
use Rattle.eco_meaning.specs.Circuit.{Circuit, AreTargets}
use Rattle.eco_meaning.specs.Meaning.{Goal}
use Rattle.eco_laws.specs.Asked.{IsMissed}
use Rattle.eco_compile.specs.Goals.{IsGoalOf, goal_nodes}
use Rattle.eco_compile.proofs.Problems.{goal_of_problem}
use Rattle.eco_pose.specs.Boards.{row_nodes}
use Rattle.eco_pose.specs.Answers.{AsksFor}
use Rattle.eco_pose.specs.Shapes.{problem_size}
use Rattle.eco_pose.proofs.SideLaws.{same_goal, moved, open_rows}
use Rattle.eco_pose.proofs.SizeLaws.{missed_few}
use Rattle.eco_pose.proofs.posing.pose_rectify.Goals as goal

pub pose_missed-requires-clause-goal : goal.pose_missed-requires-clause-goal
pose_missed-requires-clause-goal c =
    let problem = c.args.problem.now in
    let asked : Goal = record { spec = c.specification.result.now; care = option_copied c.care.result } in
    moved IsGoalOf problem.implementation c.implementation.result.now problem.goal asked (sym c.implementation.ensures.value)
    (sym (same_goal problem.goal c.specification.result.now (option_copied c.care.result) c.specification.ensures.value c.care.ensures.value)) (goal_of_problem problem.implementation problem.goal c.care.ensures.problem)

pub pose_missed-requires-clause-rows : goal.pose_missed-requires-clause-rows
pose_missed-requires-clause-rows c =
    let f = c.implementation.result.now in
    let (targets, are, long) = c.care.ensures.problem.targets.counted in
    open_rows f targets c.args.values.now (subst (λ n. AreTargets n targets) (sym c.implementation.ensures.value) are) (c.requires targets are)

pub returns : goal.returns
returns c =
    let problem = c.args.problem.now in
    let f = c.implementation.result.now in
    let values = c.args.values.now in
    let posed = c.in_ok-posed.posed in
    let asked : Goal = record { spec = c.specification.result.now; care = option_copied c.care.result } in
    let same = same_goal problem.goal c.specification.result.now (option_copied c.care.result) c.specification.ensures.value c.care.ensures.value in
    let alone : problem_size problem.implementation problem.goal ≡ problem_size problem.implementation problem.goal + 0 = omega arith in
    record {
      asks = λ targets are.
          moved (λ n g. AsksFor (IsMissed n g targets values) posed.first posed.clauses.clauses) f problem.implementation asked problem.goal c.implementation.ensures.value same
          (c.in_ok-posed.ensures.asks targets (subst (λ n. AreTargets n targets) (sym c.implementation.ensures.value) are));
      shape = c.in_ok-posed.ensures.shape;
      reads = subst (λ (n : Circuit). length posed.first ≡ length n.inputs) c.implementation.ensures.value c.in_ok-posed.ensures.reads;
      few =
          subst (λ size. posed.clauses.vars ≤ 8 * (length values + 1) * size) alone
          (missed_few problem.implementation problem.goal (length values) posed.clauses.vars c.care.ensures.problem.implementation
          (moved (λ n g. posed.clauses.vars ≤ 1 + length n.inputs + goal_nodes g + length values * row_nodes n) f problem.implementation asked problem.goal c.implementation.ensures.value same c.in_ok-posed.ensures.few));
    }
