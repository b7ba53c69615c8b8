-- What each check takes as given is right of the signal.
use Rattle.std.proofs.Common.{◌↔◌, take, sym, subst}
use Rattle.std.specs.List.{Contains}
use Rattle.std.specs.Prelude.{IfOk, IsTrue}
use Rattle.std.proofs.lemmas.Result.{IfOk-weaker}
use Rattle.eco_meaning.specs.Cost.{IsCandidate}
use Rattle.eco_meaning.specs.Patch.{OfTarget}
use Rattle.eco_meaning.specs.Report.{BaseSignal, PatchReport}
use Rattle.eco_audit.specs.Checks.{AtGroup, CanBeChecked, IsCheckable, IsOfSomeTarget, IsReadInTimeBy, says}
use Rattle.eco_audit.proofs.Groups.{of_group}
use Rattle.eco_audit.proofs.checking.passes.Goals as goal

pub is_candidate-requires : goal.is_candidate-requires
is_candidate-requires c = subst (λ k. IsCheckable c.args.problem.now c.args.patch.now k c.args.number c.args.reported.now) c.in-Candidate.is c.requires

pub has_weight-requires : goal.has_weight-requires
has_weight-requires c = subst (λ k. IsCheckable c.args.problem.now c.args.patch.now k c.args.number c.args.reported.now) c.in-Weight.is c.requires

pub is_in_time-requires-clause-targets : goal.is_in_time-requires-clause-targets
is_in_time-requires-clause-targets c =
    (subst (λ k. IsCheckable c.args.problem.now c.args.patch.now k c.args.number c.args.reported.now) c.in-Reach.is c.requires).0

pub is_in_time-requires-clause-candidate : goal.is_in_time-requires-clause-candidate
is_in_time-requires-clause-candidate c =
    subst (λ (b : BaseSignal). IsOfSomeTarget c.args.problem.now b.signal) (sym c.reported.view_is)
    (subst (λ k. IsCheckable c.args.problem.now c.args.patch.now k c.args.number c.args.reported.now) c.in-Reach.is c.requires).2

pub is_in_time-requires-clause-input : goal.is_in_time-requires-clause-input
is_in_time-requires-clause-input c =
    subst (λ (b : BaseSignal). Contains c.args.patch.now.inputs b.signal) (sym c.reported.view_is)
    (subst (λ k. IsCheckable c.args.problem.now c.args.patch.now k c.args.number c.args.reported.now) c.in-Reach.is c.requires).1

pub returns-in-Candidate : goal.returns-in-Candidate
returns-in-Candidate c = λ report ready group at.
    let problem = c.args.problem.now in
    let f = problem.implementation in
    let result = c.is_candidate.result in
    let number = c.args.number in
    let reported = c.args.reported.now in
    let are = subst (CanBeChecked problem c.args.patch.now report) c.in-Candidate.is ready in
    let is = subst (λ (b : BaseSignal). OfTarget f number (λ earlier target. IsTrue result ↔ IsCandidate f problem.weights problem.input_weight earlier b.signal)) c.reported.view_is c.is_candidate.ensures in
    subst (λ k. IsTrue result ↔ says k problem c.args.patch.now (take number report.groups) group reported) (sym c.in-Candidate.is)
    (of_group f report number (λ earlier target. IsTrue result ↔ IsCandidate f problem.weights problem.input_weight earlier reported.signal) are is group at)

pub returns-in-Weight : goal.returns-in-Weight
returns-in-Weight c = λ report ready group at.
    subst (λ k. IsTrue c.has_weight.result ↔ says k c.args.problem.now c.args.patch.now (take c.args.number report.groups) group c.args.reported.now)
    (sym c.in-Weight.is) c.has_weight.ensures

pub returns-in-Reach : goal.returns-in-Reach
returns-in-Reach c =
    let problem = c.args.problem.now in
    let p = c.args.patch.now in
    let reported = c.args.reported.now in
    let is = subst (λ (b : BaseSignal). IfOk c.is_in_time.result (λ holds. IsTrue holds ↔ IsReadInTimeBy problem.implementation p b.signal)) c.reported.view_is c.is_in_time.ensures in
    IfOk-weaker c.is_in_time.result (λ holds. IsTrue holds ↔ IsReadInTimeBy problem.implementation p reported.signal)
    (λ passed. (report : PatchReport) → CanBeChecked problem p report c.args.check → AtGroup report c.args.number (λ before group. IsTrue passed ↔ says c.args.check problem p before group reported))
    (λ passed may report ready group at. subst (λ k. IsTrue passed ↔ says k problem p (take c.args.number report.groups) group reported) (sym c.in-Reach.is) may)
    is
