-- One more input.
use Rattle.eco_locate.proofs.covering.cover_all.Goals as goal

pub cover_by-requires-clause-within : goal.cover_by-requires-clause-within
cover_by-requires-clause-within c = (c.loop-one.invariant c.requires.cover.0 c.requires.cover.1).within

pub loop-one-preserved : goal.loop-one-preserved
loop-one-preserved c all is = c.in_ok-cover_by.ensures all (c.loop-one.invariant all is)
