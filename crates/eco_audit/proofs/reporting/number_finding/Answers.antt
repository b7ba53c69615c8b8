-- The rows of the cost and of the gates.
use Rattle.std.proofs.Common.{length, sym, ◌∙◌, ap, arith}
use Rattle.std.proofs.lemmas.Bool.{both_ways}
use Rattle.std.proofs.lemmas.List.{length-map}
use Rattle.eco_meaning.specs.Circuit.{names}
use Rattle.eco_meaning.specs.Report.{PatchReport, cost_of}
use Rattle.eco_netlist.specs.Netlists.{named_gate}
use Rattle.eco_audit.specs.declared.finding.Finding.TheVariants.{Cost, Gates}
use Rattle.eco_audit.proofs.Rows.{first_fault, more_rows}
use Rattle.eco_audit.proofs.reporting.number_finding.Goals as goal

pub returns-then-not-is_cost : goal.returns-then-not-is_cost
returns-then-not-is_cost c =
    first_fault c.args.solution.now.problem.now c.args.solution.now.patch.now c.args.solution.now.out.now c.args.solution.now.report.now Cost c.requires.before (omega arith)
    (λ same. both_ways c.is_cost.result c.if-not-is_cost.true
    (c.is_cost.ensures.1 (ap (λ (r : PatchReport). r.cost) c.report.view_is ∙ same ∙ sym (ap cost_of c.requires.base))))

pub returns-then-report-gates : goal.returns-then-report-gates
returns-then-report-gates c =
    let problem = c.args.solution.now.problem.now in
    let out = c.args.solution.now.out.now in
    let before = c.requires.before in
    let p = c.args.solution.now.patch.now in
    let r = c.args.solution.now.report.now in
    let cost = ap (λ (q : PatchReport). q.cost) (sym c.report.view_is) ∙ c.is_cost.ensures.0 c.if-not-is_cost.false ∙ ap cost_of c.requires.base in
    let gates = sym (length-map c.gates.result.now (named_gate (names p))) ∙ ap length c.gates.ensures.named in
    first_fault problem p out r Gates (more_rows problem p out r 5 before cost) (omega arith)
    (λ same. c.if-report-gates.true (ap (λ (q : PatchReport). q.gates) c.report.view_is ∙ same ∙ sym gates))

pub returns : goal.returns
returns c =
    let problem = c.args.solution.now.problem.now in
    let out = c.args.solution.now.out.now in
    let before = c.requires.before in
    let p = c.args.solution.now.patch.now in
    let r = c.args.solution.now.report.now in
    let cost = ap (λ (q : PatchReport). q.cost) (sym c.report.view_is) ∙ c.is_cost.ensures.0 c.if-not-is_cost.false ∙ ap cost_of c.requires.base in
    let gates = sym (length-map c.gates.result.now (named_gate (names p))) ∙ ap length c.gates.ensures.named in
    more_rows problem p out r 6 (more_rows problem p out r 5 before cost) (ap (λ (q : PatchReport). q.gates) (sym c.report.view_is) ∙ c.if-report-gates.false ∙ gates)
