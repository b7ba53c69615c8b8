use Rattle.eco_prooftext.specs.TraceFile.{AreSteps}
use Rattle.eco_lists.proofs.Lines.{seen, lines_in}
use Rattle.eco_prooftext.proofs.trace_reader.read_lines.Given as goal

-- the steps of the lines so far
abbrev pub invariant-loop-index : goal.invariant-loop-index
invariant-loop-index l = record {
  can : (goal.iterator-loop-index).can_next l.index-iterator;
  finite : (goal.iterator-loop-index).is_finite l.index-iterator;
  taken : AreSteps (lines_in (seen l.yielded)) l.steps.items;
}
