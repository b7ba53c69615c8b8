use Rattle.std.proofs.Common.{refl, sym, subst}
use Rattle.std.proofs.lemmas.Bool.{both_ways, false≢true}
use Rattle.std.proofs.lemmas.List.{take_all}
use Rattle.std.proofs.lemmas.List.Elements.{All-more}
use Rattle.eco_trace.specs.Clauses.{HoldsIn, Satisfies, valuation_of}
use Rattle.eco_trace.proofs.model.satisfies.Goals as goal

pub returns-then-not-holds : goal.returns-then-not-holds
returns-then-not-holds c =
    let v = valuation_of c.args.model.now in
    let k = c.loop-clause.clause-index in (
      λ e. absurd (false≢true e),
      λ s.
          let all : Satisfies v c.clauses-clause-items.result.now = subst (Satisfies v) (sym c.clauses-clause-items.ensures.clauses) s in
          let here : HoldsIn v c.clause-item.result =
          subst (HoldsIn v) (sym c.clause-item.is) (all k c.clause-item.result c.loop-clause-test.true)
          in
          absurd (both_ways c.holds.result c.if-not-holds.true (c.holds.ensures.1 here)),
    )

pub loop-clause-preserved : goal.loop-clause-preserved
loop-clause-preserved c =
    let v = valuation_of c.args.model.now in
    let holds : HoldsIn v c.clause-item.result = c.holds.ensures.0 c.if-not-holds.false in
    All-more (HoldsIn v) c.clauses-clause-items.result.now c.loop-clause.clause-index c.clause-item.result
    c.loop-clause-test.true c.loop-clause.invariant (subst (HoldsIn v) c.clause-item.is holds)

pub returns : goal.returns
returns c =
    let v = valuation_of c.args.model.now in
    let clauses = c.clauses-clause-items.result.now in
    let all : Satisfies v clauses =
    subst (Satisfies v) (take_all c.loop-clause.clause-index clauses c.loop-clause-test.false) c.loop-clause.invariant
    in
    (λ _. subst (Satisfies v) c.clauses-clause-items.ensures.clauses all, λ _. refl)
