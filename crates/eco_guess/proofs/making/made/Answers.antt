-- No edge at first, one more, and all of them.
use Rattle.std.proofs.Common.{arith, sym, subst}
use Rattle.eco_guess.proofs.Added.{AreMade, made_none, made_few, made_more}
use Rattle.eco_guess.proofs.making.made.Goals as goal

pub loop-form-init : goal.loop-form-init
loop-form-init c = subst (AreMade c.args.graph.now c.args.graph.now 0) (sym c.new-edges.ensures.items) (made_none c.args.graph.now)

pub loop-form-preserved : goal.loop-form-preserved
loop-form-preserved c =
    made_more c.args.graph.now c.loop-form.graph c.make.new.graph c.loop-form.form-index c.loop-form.edges.items c.push.new.self.items c.in_ok-make.field-0
    c.loop-form.invariant c.make.ensures.grows c.in_ok-make.ensures.edge c.in_ok-push.ensures.items

pub returns-in_err-make-clause-grows : goal.returns-in_err-make-clause-grows
returns-in_err-make-clause-grows c =
    made_few c.args.graph.now c.loop-form.graph c.make.new.graph c.loop-form.form-index _ c.loop-form.edges.items (omega arith) c.loop-form.invariant c.make.ensures.grows

pub returns-in_err-push-clause-grows : goal.returns-in_err-push-clause-grows
returns-in_err-push-clause-grows c =
    made_few c.args.graph.now c.loop-form.graph c.make.new.graph c.loop-form.form-index _ c.loop-form.edges.items (omega arith) c.loop-form.invariant c.make.ensures.grows
