use Rattle.std.proofs.Common.{take}
use Rattle.eco_inputs.specs.Paths.{ArePathsApart, lent}
use Rattle.eco_inputs.proofs.paths.refuse_repeats.Given as goal

-- the paths so far are apart
abbrev pub invariant-loop-index : goal.invariant-loop-index
invariant-loop-index g l = ArePathsApart (lent (take l.index l.files))
