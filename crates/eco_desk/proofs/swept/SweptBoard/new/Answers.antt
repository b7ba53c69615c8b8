-- The board is laid out over a graph that has the inputs alone.
use Rattle.std.proofs.Common.{◌∙◌, sym, subst}
use Rattle.std.specs.Global.{Vec}
use Rattle.std.specs.Option.{option_copied}
use Rattle.eco_meaning.specs.Circuit.{Circuit}
use Rattle.eco_meaning.specs.Meaning.{Goal}
use Rattle.eco_aig.specs.declared.edge.Edge.{Edge}
use Rattle.eco_aig.specs.Inputs.{AreInputs}
use Rattle.eco_compile.specs.Goals.{IsGoalOf, goal_nodes}
use Rattle.eco_compile.proofs.Problems.{goal_of_problem}
use Rattle.eco_pose.specs.Boards.{AsksOf, IsLaidOut}
use Rattle.eco_pose.proofs.SideLaws.{same_goal, moved}
use Rattle.eco_desk.proofs.swept.SweptBoard.new.Goals as goal

pub lay_out-requires-clause-goal : goal.lay_out-requires-clause-goal
lay_out-requires-clause-goal c =
    let problem = c.args.problem.now in
    subst (λ f. IsGoalOf f (record { spec = c.specification.result.now; care = option_copied c.care.result })) (sym c.implementation-f.ensures.value)
    (subst (IsGoalOf problem.implementation) (sym (same_goal problem.goal c.specification.result.now (option_copied c.care.result) c.specification.ensures.value c.care.ensures.value))
    (goal_of_problem problem.implementation problem.goal c.care.ensures.problem))

pub returns-clause-board : goal.returns-clause-board
returns-clause-board c =
    let problem = c.args.problem.now in
    let f = c.implementation-f.result.now in
    let asked : Goal = record { spec = c.specification.result.now; care = option_copied c.care.result } in
    let same = same_goal problem.goal c.specification.result.now (option_copied c.care.result) c.specification.ensures.value c.care.ensures.value in
    let board = c.in_ok-board.board in
    record {
      laid_out = subst (λ (n : Circuit). IsLaidOut n board) c.implementation-f.ensures.value c.in_ok-board.ensures.laid_out;
      asks = moved (λ n g. AsksOf n g board) f problem.implementation asked problem.goal c.implementation-f.ensures.value same c.in_ok-board.ensures.asks;
      inputs = record {
        origin = c.in_ok-graph.graph;
        are_inputs = subst (λ (edges : Vec Edge). AreInputs c.in_ok-graph.graph edges.items) (sym c.in_ok-board.ensures.inputs) c.in_ok-graph.ensures.inputs;
        most = goal_nodes asked;
        grows = c.in_ok-board.ensures.grows;
      };
      merged = record { sweeper = c.new-2.ensures.swept board.graph; forms = c.new.ensures.formed board.graph; limit = c.new.ensures.limit ∙ sym c.new-2.ensures.limit };
    }
