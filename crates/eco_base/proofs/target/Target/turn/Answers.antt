-- The target is ready as the engine's problem has it.
use Rattle.std.proofs.Common.{sym, ◌∙◌, ap, subst}
use Rattle.eco_meaning.specs.Circuit.{names}
use Rattle.eco_netlist.specs.Netlists.{names_at}
use Rattle.eco_query.specs.Problem.{ProblemValue}
use Rattle.eco_pose.specs.Questions.{AtTarget}
use Rattle.eco_base.specs.Chosen.{IsReadyToChoose}
use Rattle.eco_base.specs.Targets.{TargetValue}
use Rattle.eco_base.proofs.target.Target.turn.Goals as goal

pub turned-requires-clause-ready : goal.turned-requires-clause-ready
turned-requires-clause-ready g c =
    subst (λ (problem : ProblemValue). AtTarget problem.implementation c.args.i (IsReadyToChoose problem c.args.patches.now (names_at (names problem.implementation) c.args.paid.now)))
    (sym (c.self.invariant.at.same_problem ∙ ap (λ (t : TargetValue). t.problem) c.self.view_is)) c.requires.ready
