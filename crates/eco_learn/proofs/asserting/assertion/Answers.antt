-- There is no other literal, or the last one tells the level.
use Rattle.eco_learn.proofs.AssertLaws.{asserting_alone, asserting_with}
use Rattle.eco_learn.proofs.asserting.assertion.Goals as goal

pub returns-in-None-clause-asserting : goal.returns-in-None-clause-asserting
returns-in-None-clause-asserting c =
    asserting_alone c.args.trail.now c.args.clause.now c.args.lit c.args.node c.is_sound.ensures.sound c.requires.wrong c.requires.above c.in-None.ensures

pub returns-in-Some-clause-asserting : goal.returns-in-Some-clause-asserting
returns-in-Some-clause-asserting c =
    rw c.complement.ensures (asserting_with c.args.trail.now c.args.clause.now c.args.lit c.lit.result c.args.node c.in-Some.place c.level_at.result c.is_sound.ensures.sound c.requires.clause c.requires.wrong c.requires.above c.in-Some.ensures c.level_at.ensures c.lit.ensures)
