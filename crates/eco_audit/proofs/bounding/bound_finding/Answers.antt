-- The netlists are checked; and the row of the bound is one more.
use Rattle.std.proofs.Common.{arith}
use Rattle.std.proofs.lemmas.Bool.{both_ways}
use Rattle.eco_audit.specs.declared.finding.Finding.TheVariants.{Bound}
use Rattle.eco_audit.proofs.Fitting.{judged_from}
use Rattle.eco_audit.proofs.Rows.{first_fault, more_rows}
use Rattle.eco_audit.proofs.bounding.bound_finding.Goals as goal

pub told_bound_holds-requires : goal.told_bound_holds-requires
told_bound_holds-requires g c =
    judged_from c.args.solution.now c.implementation.result.now c.implementation.ensures.value c.nets.ensures.checked c.nets-2.ensures.checked c.nets-3.ensures.checked c.requires.closed (λ row less. c.requires.before row (omega (arith, less)))

pub returns-then-holds : goal.returns-then-holds
returns-then-holds g c =
    more_rows c.args.solution.now.problem.now c.args.solution.now.patch.now c.args.solution.now.out.now c.args.solution.now.report.now 11 c.requires.before (c.in_ok-holds.ensures.0 c.if-holds.true)

pub returns-else-holds : goal.returns-else-holds
returns-else-holds g c =
    first_fault c.args.solution.now.problem.now c.args.solution.now.patch.now c.args.solution.now.out.now c.args.solution.now.report.now Bound c.requires.before (omega arith)
    (λ bound. both_ways c.in_ok-holds.holds c.if-holds.false (c.in_ok-holds.ensures.1 bound))
