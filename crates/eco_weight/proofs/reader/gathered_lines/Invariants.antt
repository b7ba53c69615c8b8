use Rattle.eco_weight.specs.Gathering.{Collects}
use Rattle.eco_lists.proofs.Lines.{seen, lines_in}
use Rattle.eco_weight.proofs.reader.gathered_lines.Given as goal

-- the lines so far were gathered
abbrev pub invariant-loop-index : goal.invariant-loop-index
invariant-loop-index l = record {
  can : (goal.iterator-loop-index).can_next l.index-iterator;
  finite : (goal.iterator-loop-index).is_finite l.index-iterator;
  collects : Collects (lines_in (seen l.yielded)) l.gathered;
}
