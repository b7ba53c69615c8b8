-- One variable more, of which nothing is chosen, or one literal.
use Rattle.eco_learn.proofs.ChosenLaws.{gathered_still, gathered_more}
use Rattle.eco_learn.proofs.choosing.choose.Goals as goal

pub returns-in-None : goal.returns-in-None
returns-in-None c = λ done h.
    gathered_still c.args.trail.now.lits c.args.marks.now done c.args.clause.now.items c.args.lit c.in-None.ensures h

pub returns-in_ok-push-in-Some : goal.returns-in_ok-push-in-Some
returns-in_ok-push-in-Some c = λ done h.
    rw c.in_ok-push-in-Some.ensures.items (gathered_more c.args.trail.now.lits c.args.marks.now done c.args.clause.now.items c.args.lit c.in-Some.lit c.is_sound.ensures.sound.apart c.in-Some.ensures.0 c.in-Some.ensures.1 c.in-Some.ensures.2 h)
