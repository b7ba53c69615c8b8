-- The turns are those of the target, with their weights.
use Rattle.std.proofs.Common.{List, map, sym, ◌∙◌, ap, subst}
use Rattle.eco_meaning.specs.Circuit.{names}
use Rattle.eco_meaning.specs.Cost.{AreTurns}
use Rattle.eco_gates.specs.declared.gate.NetId.{NetId}
use Rattle.eco_netlist.specs.Netlists.{AreNets}
use Rattle.eco_query.specs.Problem.{ProblemValue}
use Rattle.eco_pose.specs.Questions.{AtTarget}
use Rattle.eco_base.specs.Targets.{named_in, paid_of}
use Rattle.eco_least.specs.Weighed.{weight_at}
use Rattle.eco_least.proofs.weighed.weigh.Goals as goal

pub returns : goal.returns
returns g c =
    let t = c.args.target.now in
    let same = c.in_ok-turns.ensures.items in
    record {
      number = c.number.ensures.target;
      paid_nets = c.paid.ensures.nets;
      turn_nets = subst (AreNets (names t.problem.implementation)) (sym same) c.turns.ensures.nets;
      readable = c.paid.ensures.readable;
      are_turns = subst (λ (nets : List NetId). AtTarget t.problem.implementation t.number (λ before target behind. AreTurns t.problem.implementation t.problem.weights t.problem.input_weight before (paid_of t) (named_in t nets))) (sym same) c.turns.ensures.turns;
      weights = c.in_ok-weights.ensures ∙ ap (λ (problem : ProblemValue). map (weight_at problem) c.as_slice.result.now) c.problem.ensures ∙ ap (map (weight_at t.problem)) c.as_slice.ensures.value;
    }
