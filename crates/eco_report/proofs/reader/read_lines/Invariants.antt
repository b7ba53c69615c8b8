use Rattle.std.proofs.Common.{◌+◌, ◌≤◌, length}
use Rattle.eco_report.specs.Reading.{IsReading}
use Rattle.eco_report.proofs.reader.read_lines.Given as goal

-- the lines so far were read, and are no more than the bytes
abbrev pub invariant-loop-line : goal.invariant-loop-line
invariant-loop-line l = record {
  read : IsReading l.fn.bytes l.rest l.number l.state;
  room : l.number + length l.rest ≤ length l.fn.bytes + 1;
}

abbrev pub decreases-loop-line : goal.decreases-loop-line
decreases-loop-line l = length l.rest
