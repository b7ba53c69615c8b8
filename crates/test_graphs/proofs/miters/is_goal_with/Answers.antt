-- The specification is one, and so is the cared netlist.
use Rattle.std.proofs.Common.{refl, subst}
use Rattle.std.proofs.lemmas.Option.{same_Some}
use Rattle.eco_query.specs.Problem.{IsCareOf}
use Rattle.test_graphs.proofs.miters.is_goal_with.Goals as goal

pub returns-then-is_goal : goal.returns-then-is_goal
returns-then-is_goal c = λ cared.
    let is = c.if-is_goal.ensures refl in
    record {
      checked = is.checked;
      inputs = is.inputs;
      outputs = is.outputs;
      closed = is.closed;
      care = λ care same. subst (IsCareOf c.args.f.now) (same_Some c.args.care.now care same) (c.is_care.ensures cared);
    }
