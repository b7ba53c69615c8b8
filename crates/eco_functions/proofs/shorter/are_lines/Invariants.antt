-- The lines so far give their edges.
use Rattle.std.proofs.Common.{take}
use Rattle.std.specs.List.{All}
use Rattle.eco_splice.specs.Lines.{IsLine}
use Rattle.eco_functions.proofs.shorter.are_lines.Given as goal

abbrev pub invariant-loop-line : goal.invariant-loop-line
invariant-loop-line l = All (IsLine l.aig) (take l.line-index l.lines)
