-- The last round ended the search, or learnt one clause more.
use Rattle.std.proofs.Common.{◌∙◌, sym, subst, arith}
use Rattle.eco_scan.specs.declared.rounds.Round.{Round}
use Rattle.eco_scan.specs.declared.rounds.Round.TheVariants.{Sat}
use Rattle.eco_scan.specs.Rounds.{IsRound}
use Rattle.eco_scan.proofs.ReadyLaws.{searching_more, searched_sat, searched_unsat}
use Rattle.eco_scan.proofs.scan.search.Goals as goal

pub returns-in-Sat : goal.returns-in-Sat
returns-in-Sat c =
    let found : IsRound c.loop.trace c.play.new.trace c.play.new.trail (Sat c.in-Sat.model) = subst (λ (r : Round). IsRound c.loop.trace c.play.new.trace c.play.new.trail r) c.in-Sat.is c.in_ok-model.ensures.round in
    searched_sat c.args.cnf.now c.loop.trace c.loop.trail c.play.new.trail c.loop.counter c.in-Sat.model c.loop.invariant.0 c.in_ok-model.ensures.vars found.0 found.1

pub returns-in-Unsat : goal.returns-in-Unsat
returns-in-Unsat c =
    searched_unsat c.args.cnf.now c.loop.trace c.play.new.trace c.loop.trail c.loop.counter c.args.limit c.loop.invariant.0 (omega arith) (subst (λ (r : Round). IsRound c.loop.trace c.play.new.trace c.play.new.trail r) c.in-Unsat.is c.in_ok-model.ensures.round)

pub loop-preserved : goal.loop-preserved
loop-preserved c = (
  searching_more c.args.cnf.now c.loop.trace c.play.new.trace c.loop.trail c.play.new.trail c.loop.counter c.loop.invariant.0 (subst (λ (r : Round). IsRound c.loop.trace c.play.new.trace c.play.new.trail r) c.in-Learnt.is c.in_ok-model.ensures.round) c.in_ok-model.ensures.vars,
  c.in_ok-model.ensures.room ∙ c.loop.invariant.1 ∙ sym c.in_ok-model.ensures.vars,
)
