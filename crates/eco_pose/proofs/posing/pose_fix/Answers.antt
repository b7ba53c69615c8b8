-- The clauses ask of the problem's own netlists.
use Rattle.std.proofs.Common.{◌+◌, ◌*◌, ◌≤◌, length, ◌≡◌, arith, sym, subst}
use Rattle.std.specs.Option.{option_copied}
use Rattle.eco_meaning.specs.Circuit.{AreTargets}
use Rattle.eco_meaning.specs.Meaning.{Goal}
use Rattle.eco_laws.specs.Asked.{IsFixed}
use Rattle.eco_compile.specs.Goals.{IsGoalOf, goal_nodes}
use Rattle.eco_compile.proofs.Problems.{goal_of_problem}
use Rattle.eco_pose.specs.Boards.{row_nodes}
use Rattle.eco_pose.specs.Answers.{AsksFor}
use Rattle.eco_pose.specs.Shapes.{problem_size}
use Rattle.eco_pose.proofs.SideLaws.{same_goal, moved}
use Rattle.eco_pose.proofs.SizeLaws.{fixed_few}
use Rattle.eco_pose.proofs.posing.pose_fix.Goals as goal

pub pose_fixed-requires-clause-goal : goal.pose_fixed-requires-clause-goal
pose_fixed-requires-clause-goal c =
    let problem = c.args.problem.now in
    let asked : Goal = record { spec = c.specification.result.now; care = option_copied c.care.result } in
    moved IsGoalOf problem.implementation c.implementation.result.now problem.goal asked (sym c.implementation.ensures.value)
    (sym (same_goal problem.goal c.specification.result.now (option_copied c.care.result) c.specification.ensures.value c.care.ensures.value)) (goal_of_problem problem.implementation problem.goal c.care.ensures.problem)

pub returns : goal.returns
returns c =
    let problem = c.args.problem.now in
    let f = c.implementation.result.now in
    let posed = c.in_ok-posed.posed in
    let asked : Goal = record { spec = c.specification.result.now; care = option_copied c.care.result } in
    let same = same_goal problem.goal c.specification.result.now (option_copied c.care.result) c.specification.ensures.value c.care.ensures.value in
    let some = c.care.ensures.problem.targets in
    let targets = some.counted.0 in
    let alone : problem_size problem.implementation problem.goal ≡ problem_size problem.implementation problem.goal + 0 = omega arith in
    record {
      asks = λ targets are.
          moved (λ n g. AsksFor (IsFixed n g targets c.args.fixed.now c.args.input.now) posed.targets posed.clauses.clauses) f problem.implementation asked problem.goal c.implementation.ensures.value same
          (subst (λ bits. AsksFor (IsFixed f asked targets bits c.args.input.now) posed.targets posed.clauses.clauses) c.as_slice-2.ensures
          (subst (λ bits. AsksFor (IsFixed f asked targets c.as_slice-2.result.now bits) posed.targets posed.clauses.clauses) c.as_slice.ensures
          (c.in_ok-posed.ensures.asks targets (subst (λ n. AreTargets n targets) (sym c.implementation.ensures.value) are))));
      shape = c.in_ok-posed.ensures.shape;
      reads = λ targets are. c.in_ok-posed.ensures.reads targets (subst (λ n. AreTargets n targets) (sym c.implementation.ensures.value) are);
      few =
          subst (λ size. posed.clauses.vars ≤ 8 * size) alone
          (fixed_few problem.implementation problem.goal targets posed.clauses.vars c.care.ensures.problem.implementation some.counted.1
          (moved (λ n g. posed.clauses.vars ≤ 1 + length targets + goal_nodes g + row_nodes n) f problem.implementation asked problem.goal c.implementation.ensures.value same
          (c.in_ok-posed.ensures.few targets (subst (λ n. AreTargets n targets) (sym c.implementation.ensures.value) some.counted.1))));
    }
