use Rattle.std.proofs.Common.{List, subst}
use Rattle.std.proofs.lemmas.Bool.{MatchBool-at_true, MatchBool-at_false, both_ways}
use Rattle.std.proofs.lemmas.List.{take_all}
use Rattle.eco_check.specs.Steps.{StepValue, TakesSteps}
use Rattle.eco_check.specs.declared.error.CheckError.TheVariants.{NoEmptyClause}
use Rattle.eco_check.proofs.StepLaws.{taken_more}
use Rattle.eco_check.proofs.CauseLaws.{bad_found, given_error, proved_from, proved_no_cause}
use Rattle.eco_check.proofs.checker.check.Goals as goal

pub returns-then-not-branch-clause-cause : goal.returns-then-not-branch-clause-cause
returns-then-not-branch-clause-cause c =
    bad_found _ _ _ _ _ c.loop-place-test.true c.index-steps-place.is c.loop-place.invariant
    (MatchBool-at_false _ _ c.if-not-branch.true c.in_ok-take.ensures)

pub returns-then-not-branch-clause-exactly : goal.returns-then-not-branch-clause-exactly
returns-then-not-branch-clause-exactly c =
    λ e ne cause. given_error c.args.cnf.now.clauses c.args.steps.now _ e
    (bad_found _ _ _ _ _ c.loop-place-test.true c.index-steps-place.is c.loop-place.invariant
    (MatchBool-at_false _ _ c.if-not-branch.true c.in_ok-take.ensures))
    ne cause

pub loop-place-preserved : goal.loop-place-preserved
loop-place-preserved c =
    taken_more _ _ _ _ _ _ c.loop-place-test.true c.index-steps-place.is c.loop-place.invariant
    (MatchBool-at_true _ _ c.if-not-branch.false c.in_ok-take.ensures)

pub returns-then-ends_empty-clause-proved : goal.returns-then-ends_empty-clause-proved
returns-then-ends_empty-clause-proved c =
    let taken : TakesSteps c.args.cnf.now.clauses c.args.steps.now c.loop-place.trace =
    subst (λ (ss : List StepValue). TakesSteps c.args.cnf.now.clauses ss c.loop-place.trace)
    (take_all c.loop-place.place c.args.steps.now c.loop-place-test.false) c.loop-place.invariant
    in
    proved_from _ _ _ taken (c.ends_empty.ensures.ends.0 c.if-ends_empty.true) (c.ends_empty.ensures.refutes c.if-ends_empty.true)

pub returns-then-ends_empty-clause-exactly : goal.returns-then-ends_empty-clause-exactly
returns-then-ends_empty-clause-exactly c =
    let taken : TakesSteps c.args.cnf.now.clauses c.args.steps.now c.loop-place.trace =
    subst (λ (ss : List StepValue). TakesSteps c.args.cnf.now.clauses ss c.loop-place.trace)
    (take_all c.loop-place.place c.args.steps.now c.loop-place-test.false) c.loop-place.invariant
    in
    let proved =
    proved_from _ _ _ taken (c.ends_empty.ensures.ends.0 c.if-ends_empty.true) (c.ends_empty.ensures.refutes c.if-ends_empty.true)
    in
    λ e ne cause. absurd (proved_no_cause c.args.cnf.now.clauses c.args.steps.now c.loop-place.trace e proved ne cause)

pub returns-clause-exactly : goal.returns-clause-exactly
returns-clause-exactly c =
    let taken : TakesSteps c.args.cnf.now.clauses c.args.steps.now c.loop-place.trace =
    subst (λ (ss : List StepValue). TakesSteps c.args.cnf.now.clauses ss c.loop-place.trace)
    (take_all c.loop-place.place c.args.steps.now c.loop-place-test.false) c.loop-place.invariant
    in
    λ e ne cause. given_error c.args.cnf.now.clauses c.args.steps.now NoEmptyClause e
    (record { proof = c.loop-place.trace; taken = taken; unfinished = λ ends. both_ways _ c.if-ends_empty.false (c.ends_empty.ensures.ends.1 ends) })
    ne cause
