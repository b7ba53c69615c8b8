-- The base's inputs force whatever netlist stands for the patch.
use Rattle.std.proofs.Common.{sym, subst}
use Rattle.std.specs.List.{All}
use Rattle.eco_meaning.specs.Report.{BaseSignal}
use Rattle.eco_query.specs.Problem.{ProblemValue}
use Rattle.eco_bound.specs.Accounts.{AreForcing}
use Rattle.eco_bound.proofs.RaisingLaws.{forcing_pairs}
use Rattle.eco_bound.proofs.bounding.settle.Goals as goal

pub pay_all-requires-clause-forcing : goal.pay_all-requires-clause-forcing
pay_all-requires-clause-forcing g c =
    subst (λ (problem : ProblemValue). All (λ (b : BaseSignal). AreForcing problem b.force1 b.force0) c.args.base.now) (sym c.problem.ensures)
    (forcing_pairs c.args.target.now.problem c.args.base.now c.requires.needed)
