-- The two sides have few variables.
use Rattle.std.proofs.Common.{◌+◌, ◌*◌, ◌≤◌, length, sym, subst}
use Rattle.std.proofs.lemmas.List.{length-map}
use Rattle.eco_meaning.specs.Circuit.{names}
use Rattle.eco_meaning.specs.Patch.{splice_of}
use Rattle.eco_gates.specs.declared.gate.NetId.{NetId}
use Rattle.eco_netlist.specs.Netlists.{name_at, names_at}
use Rattle.eco_compile.specs.Compiled.{needed_nodes}
use Rattle.eco_compile.specs.Goals.{goal_nodes}
use Rattle.eco_pose.specs.Boards.{row_nodes}
use Rattle.eco_pose.proofs.SideLaws.{target_at}
use Rattle.eco_pose.proofs.SizeLaws.{sides_few}
use Rattle.eco_pose.proofs.posing.pose_separate.Goals as goal

pub returns : goal.returns
returns c =
    let problem = c.args.problem.now in
    let f = problem.implementation in
    let p = c.args.patches.now in
    let posed = c.in_ok-posed.posed in
    let (before, target, behind, are, len) = target_at f c.args.i c.requires.number in
    let fits = c.requires.separable before target behind are len in
    record {
      asks = c.in_ok-posed.ensures.asks;
      shape = c.in_ok-posed.ensures.shape;
      reads = c.in_ok-posed.ensures.reads;
      few =
          sides_few f p problem.goal (names_at (names f) c.args.base.now) (length c.args.rest.now) posed.clauses.vars c.implementation.ensures.problem.implementation fits.distinct fits.signals
          (subst (λ m. posed.clauses.vars ≤ 2 * (1 + length f.inputs + goal_nodes problem.goal + needed_nodes (splice_of f p) + length c.args.rest.now * row_nodes (splice_of f p)) + m)
          (sym (length-map c.args.base.now (λ (net : NetId). name_at (names f) net.0))) c.in_ok-posed.ensures.few);
    }
