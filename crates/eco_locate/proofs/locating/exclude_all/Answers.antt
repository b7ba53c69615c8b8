-- One more input.
use Rattle.eco_locate.proofs.JudgedLemmas.{left_within}
use Rattle.eco_locate.proofs.locating.exclude_all.Goals as goal

pub exclude_by-requires-clause-within : goal.exclude_by-requires-clause-within
exclude_by-requires-clause-within c =
    left_within c.args.change.now.old c.args.change.now.goal c.requires.progress.0 c.loop-input.progress.left.items c.loop-input.progress.located
    (c.loop-input.invariant c.requires.progress.0 c.requires.progress.1)

pub loop-input-preserved : goal.loop-input-preserved
loop-input-preserved c limit is = c.in_ok-exclude_by.ensures limit (c.loop-input.invariant limit is)
