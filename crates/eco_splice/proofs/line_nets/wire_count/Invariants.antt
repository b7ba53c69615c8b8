use Rattle.std.proofs.Common.{◌≡◌, ◌+◌, ◌≤◌, drop}
use Rattle.eco_splice.specs.LineGates.{wire_count}
use Rattle.eco_splice.proofs.line_nets.wire_count.Given as goal

abbrev pub invariant-loop-line : goal.invariant-loop-line
invariant-loop-line l = record {
  few : l.count ≤ l.line-index;
  rest : l.count + wire_count (drop l.line-index l.lines) ≡ wire_count l.lines;
}
