-- Row by row.
use Rattle.std.proofs.Common.{◌≡◌, List, sym, ◌∙◌, ap, subst, arith}
use Rattle.std.proofs.lemmas.Bool.{both_ways}
use Rattle.eco_meaning.specs.Circuit.{Circuit, AreTargets}
use Rattle.eco_meaning.specs.Report.{TargetGroup, PatchReport, targets_in}
use Rattle.eco_audit.specs.declared.finding.Finding.TheVariants.{Targets, Ports}
use Rattle.eco_audit.specs.Judging.{IsFoundUpTo}
use Rattle.eco_audit.proofs.Rows.{first_fault, more_rows, no_rows}
use Rattle.eco_audit.proofs.reporting.report_finding.Goals as goal

-- the same targets
targets_there : (f g : Circuit) (groups others : List TargetGroup) → f ≡ g → groups ≡ others → AreTargets f (targets_in groups) → AreTargets g (targets_in others)
targets_there f g groups others same_f same are =
    subst (λ (n : Circuit). AreTargets n (targets_in others)) same_f (subst (λ (l : List TargetGroup). AreTargets f (targets_in l)) same are)

pub returns-then-not-are_targets : goal.returns-then-not-are_targets
returns-then-not-are_targets c =
    let problem = c.args.solution.now.problem.now in
    let out = c.args.solution.now.out.now in
    let p = c.args.solution.now.patch.now in
    let r = c.args.solution.now.report.now in
    let groups = c.as_slice-groups.ensures.value ∙ ap (λ (q : PatchReport). q.groups) c.report.view_is in
    first_fault problem p out r Targets (no_rows problem p out r) (omega arith)
    (λ are. both_ways c.are_targets.result c.if-not-are_targets.true
    (c.are_targets.ensures.1 (targets_there problem.implementation c.implementation.result.now r.groups c.as_slice-groups.result.now (sym c.implementation.ensures.value) (sym groups) are)))

pub returns-then-not-has_reported_ports : goal.returns-then-not-has_reported_ports
returns-then-not-has_reported_ports c =
    let problem = c.args.solution.now.problem.now in
    let out = c.args.solution.now.out.now in
    let p = c.args.solution.now.patch.now in
    let r = c.args.solution.now.report.now in
    let groups = c.as_slice-groups.ensures.value ∙ ap (λ (q : PatchReport). q.groups) c.report.view_is in
    let targets = targets_there c.implementation.result.now problem.implementation c.as_slice-groups.result.now r.groups c.implementation.ensures.value groups (c.are_targets.ensures.0 c.if-not-are_targets.false) in
    first_fault problem p out r Ports (more_rows problem p out r 1 (no_rows problem p out r) targets) (omega arith)
    (λ is. both_ways c.has_reported_ports.result c.if-not-has_reported_ports.true (c.has_reported_ports.ensures.1 is))

pub signal_finding-requires : goal.signal_finding-requires
signal_finding-requires c =
    let problem = c.args.solution.now.problem.now in
    let out = c.args.solution.now.out.now in
    let p = c.args.solution.now.patch.now in
    let r = c.args.solution.now.report.now in
    let groups = c.as_slice-groups.ensures.value ∙ ap (λ (q : PatchReport). q.groups) c.report.view_is in
    let targets = targets_there c.implementation.result.now problem.implementation c.as_slice-groups.result.now r.groups c.implementation.ensures.value groups (c.are_targets.ensures.0 c.if-not-are_targets.false) in
    more_rows problem p out r 2 (more_rows problem p out r 1 (no_rows problem p out r) targets) (c.has_reported_ports.ensures.0 c.if-not-has_reported_ports.false)

pub returns-in-Some : goal.returns-in-Some
returns-in-Some c =
    subst (IsFoundUpTo 5 c.args.solution.now) c.in-Some.is c.in_ok-found.ensures

pub number_finding-requires-clause-before : goal.number_finding-requires-clause-before
number_finding-requires-clause-before c =
    subst (IsFoundUpTo 5 c.args.solution.now) c.in-None.is c.in_ok-found.ensures
