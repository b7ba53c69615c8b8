-- The target is ready as the engine's problem has it.
use Rattle.std.proofs.Common.{sym, subst}
use Rattle.eco_meaning.specs.Circuit.{names}
use Rattle.eco_netlist.specs.Netlists.{names_at}
use Rattle.eco_query.specs.Problem.{ProblemValue}
use Rattle.eco_pose.specs.Questions.{AtTarget}
use Rattle.eco_base.specs.Chosen.{IsReadyToChoose}
use Rattle.eco_base.proofs.target.turned.Goals as goal

pub stage_of-requires-clause-ready : goal.stage_of-requires-clause-ready
stage_of-requires-clause-ready g c =
    subst (λ (problem : ProblemValue). AtTarget problem.implementation c.args.i (IsReadyToChoose problem c.args.patches.now (names_at (names problem.implementation) c.args.paid.now)))
    (sym c.problem.ensures) c.requires.ready

pub turn-requires-clause-before : goal.turn-requires-clause-before
turn-requires-clause-before g c = λ before target behind are len. (c.requires.ready before target behind are len).patch
