-- One more variable, and at the end all of them.
use Rattle.std.proofs.Common.{◌∙◌, subst}
use Rattle.std.specs.List.{All}
use Rattle.std.proofs.lemmas.List.{take_all}
use Rattle.eco_accept.specs.Posing.{IsVarUpTo}
use Rattle.eco_accept.proofs.Questions.{var_more}
use Rattle.eco_accept.proofs.part.reach_all.Goals as goal

pub loop-var-preserved : goal.loop-var-preserved
loop-var-preserved c =
    (c.reach.ensures.clauses ∙ c.loop-var.invariant.0, var_more c.loop-var.cnf.vars c.reach.new.cnf.vars c.args.vars.now c.loop-var.var-index (record { 0 = 0 }) c.loop-var-test.true c.reach.ensures.more c.if-var-eq0.false c.reach.ensures.there c.loop-var.invariant.1)

pub returns-clause-within : goal.returns-clause-within
returns-clause-within c = λ _. subst (All (IsVarUpTo c.loop-var.cnf.vars)) (take_all c.loop-var.var-index c.args.vars.now c.loop-var-test.false) c.loop-var.invariant.1
