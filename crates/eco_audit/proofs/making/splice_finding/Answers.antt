-- The patched netlist is the splice, or another.
use Rattle.std.proofs.Common.{arith}
use Rattle.std.proofs.lemmas.Bool.{both_ways}
use Rattle.eco_audit.specs.declared.finding.Finding.TheVariants.{Splice}
use Rattle.eco_audit.proofs.Fitting.{fits_from}
use Rattle.eco_audit.proofs.Rows.{first_fault, more_rows}
use Rattle.eco_audit.proofs.making.splice_finding.Goals as goal

pub is_splice-requires : goal.is_splice-requires
is_splice-requires c =
    fits_from c.args.solution.now.problem.now c.args.solution.now.patch.now c.args.solution.now.out.now c.args.solution.now.report.now c.nets.ensures.checked c.requires.closed c.requires.before

pub returns-then-is_splice : goal.returns-then-is_splice
returns-then-is_splice c =
    more_rows c.args.solution.now.problem.now c.args.solution.now.patch.now c.args.solution.now.out.now c.args.solution.now.report.now 9 c.requires.before (c.in_ok-is_splice.ensures.0 c.if-is_splice.true)

pub returns-else-is_splice : goal.returns-else-is_splice
returns-else-is_splice c =
    first_fault c.args.solution.now.problem.now c.args.solution.now.patch.now c.args.solution.now.out.now c.args.solution.now.report.now Splice c.requires.before (omega arith)
    (λ same. both_ways c.in_ok-is_splice.is_splice c.if-is_splice.false (c.in_ok-is_splice.ensures.1 same))
