-- A conflict is a part, and none means that those that have nothing left suffice.
use Rattle.std.proofs.Common.{◌∙◌, [], refl, ap, sym, subst}
use Rattle.eco_query.specs.Problem.{ProblemValue}
use Rattle.eco_base.specs.Conflicts.{IsConflictFound}
use Rattle.eco_base.specs.Targets.{TargetValue}
use Rattle.eco_bound.specs.Accounts.{AreForcing, ShowsSpent, spent_names}
use Rattle.eco_bound.proofs.RaisingLaws.{forcing, shows}
use Rattle.eco_bound.proofs.raising.raise_once.Goals as goal

pub pay-paid-requires-clause-forcing : goal.pay-paid-requires-clause-forcing
pay-paid-requires-clause-forcing g c =
    let problem = c.args.target.now.problem in
    let payers = c.args.account.now.payers.items in
    let same = c.problem.ensures ∙ ap (λ (t : TargetValue). t.problem) c.in_ok-spent_conflict.ensures.stays in
    let found = subst (IsConflictFound problem 0 c.args.target.now.patches (spent_names problem.implementation payers)) c.in-Some.is c.in_ok-spent_conflict.ensures.conflict in
    subst (λ (p : ProblemValue). AreForcing p c.in-Some.pair.one c.in-Some.pair.zero) (sym same)
    (forcing problem c.args.target.now.patches c.requires.first.beginning payers c.in-Some.pair.one c.in-Some.pair.zero found)

pub returns-in-None-clause-raised : goal.returns-in-None-clause-raised
returns-in-None-clause-raised g c target single =
    let problem = c.args.target.now.problem in
    let payers = c.args.account.now.payers.items in
    let found = subst (IsConflictFound problem 0 c.args.target.now.patches (spent_names problem.implementation payers)) c.in-None.is c.in_ok-spent_conflict.ensures.conflict in
    found [] target [] single refl

pub returns-in_ok-paid-in-Some-clause-raised : goal.returns-in_ok-paid-in-Some-clause-raised
returns-in_ok-paid-in-Some-clause-raised g c =
    let problem = c.args.target.now.problem in
    let payers = c.args.account.now.payers.items in
    let same = c.problem.ensures ∙ ap (λ (t : TargetValue). t.problem) c.in_ok-spent_conflict.ensures.stays in
    let found = subst (IsConflictFound problem 0 c.args.target.now.patches (spent_names problem.implementation payers)) c.in-Some.is c.in_ok-spent_conflict.ensures.conflict in
    c.in_ok-paid-in-Some.ensures.less
    (subst (λ (p : ProblemValue). ShowsSpent p payers c.in-Some.pair.one c.in-Some.pair.zero) (sym same)
    (shows problem c.args.target.now.patches c.requires.first.beginning payers c.in-Some.pair.one c.in-Some.pair.zero found))
