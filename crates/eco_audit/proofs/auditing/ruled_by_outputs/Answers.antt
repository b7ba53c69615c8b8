-- All rows are right, or the last finding is the first, or none stands before it.
use Rattle.std.proofs.Common.{ℕ, ap, refl, rules, sym, subst, arith}
use Rattle.eco_meaning.specs.Circuit.{Circuit}
use Rattle.eco_meaning.specs.Report.{PatchReport}
use Rattle.eco_query.specs.Problem.{ProblemValue}
use Rattle.eco_pose.specs.declared.question.Question.{Question}
use Rattle.eco_pose.specs.declared.question.Question.TheVariants as questions
use Rattle.eco_pose.specs.declared.unfinished.Unfinished.{Unfinished}
use Rattle.eco_pose.specs.declared.unfinished.Unfinished.TheVariants.{GivenUp, OutOfMemory}
use Rattle.eco_pose.specs.Questions.{IsOfProblem}
use Rattle.eco_pose.specs.Stuck.{IsLeft}
use Rattle.eco_report.specs.declared.file.ReportFile.TheVariants.{Patched}
use Rattle.eco_audit.specs.Files.{IsLeftOpen}
use Rattle.eco_audit.specs.Outputs.{AreCompared, TellsOutputs}
use Rattle.eco_audit.specs.Rows.{HoldBefore}
use Rattle.eco_audit.specs.declared.finding.Finding.TheVariants.{Differs}
use Rattle.eco_audit.proofs.Deciding.{rows_solve}
use Rattle.eco_audit.proofs.Rows.{first_fault, more_rows, no_fault}
use Rattle.eco_audit.proofs.auditing.ruled_by_outputs.Goals as goal

pub outputs_of-requires-clause-inputs : goal.outputs_of-requires-clause-inputs
outputs_of-requires-clause-inputs g c = ap (λ (n : Circuit). n.inputs) (c.requires.before 9 (omega arith))

pub outputs_of-requires-clause-outputs : goal.outputs_of-requires-clause-outputs
outputs_of-requires-clause-outputs g c = ap (λ (n : Circuit). n.outputs) (c.requires.before 9 (omega arith))

pub returns-in-Same-clause-ruling : goal.returns-in-Same-clause-ruling
returns-in-Same-clause-ruling g c =
    let problem = c.args.solution.now.problem.now in
    let p = c.args.solution.now.patch.now in
    let out = c.args.solution.now.out.now in
    let r = c.args.solution.now.report.now in
    rows_solve problem p out r c.nets.ensures.checked c.requires.patch_closed c.nets-2.ensures.checked
    (more_rows problem p out r 12 c.requires.before (subst (TellsOutputs problem out) c.in-Same.is c.in_ok-outputs.ensures.outputs))

pub returns-in-Differ-clause-ruling : goal.returns-in-Differ-clause-ruling
returns-in-Differ-clause-ruling g c =
    let problem = c.args.solution.now.problem.now in
    let out = c.args.solution.now.out.now in
    first_fault problem c.args.solution.now.patch.now out c.args.solution.now.report.now (Differs c.in-Differ.input) c.requires.before (omega arith)
    (subst (TellsOutputs problem out) c.in-Differ.is c.in_ok-outputs.ensures.outputs)

-- nothing stands before it
left_open : (problem : ProblemValue) (p out : Circuit) (r : PatchReport) (limit : ℕ) (unfinished : Unfinished) → HoldBefore problem p out r 12 → IsLeft problem limit (questions.Equal out problem.goal.spec problem.goal.care) unfinished →
    IsLeftOpen problem p out (Patched r) limit unfinished
left_open problem p out r limit (GivenUp stuck) before left = (
  no_fault problem p out r 12 (omega arith) before,
  record {
    of_problem = subst (λ (q : Question). IsOfProblem problem (AreCompared problem out) q) (sym left.0) ((refl, refl), refl);
    given_up = left.1;
  },
  left.0,
)
left_open problem p out r limit OutOfMemory before left = tt

pub returns-in_err-outputs-clause-unfinished : goal.returns-in_err-outputs-clause-unfinished
returns-in_err-outputs-clause-unfinished g c =
    let still = left_open c.args.solution.now.problem.now c.args.solution.now.patch.now c.args.solution.now.out.now c.args.solution.now.report.now c.args.limit c.in_err-outputs.field-0.0 c.requires.before c.in_err-outputs.ensures.unfinished in
    search rules
