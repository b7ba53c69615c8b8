use Rattle.std.proofs.Common.{◌≡◌, ◌+◌, ◌++◌, drop}
use Rattle.eco_splice.specs.LineGates.{line_gates}
use Rattle.eco_splice.proofs.line_gates.add_line_gates.Given as goal

abbrev pub invariant-loop-place : goal.invariant-loop-place
invariant-loop-place l = record {
  others : l.draft ≡ record l.fn.draft { gates = l.draft.gates };
  gates : l.draft.gates ++ line_gates l.nets.places.now.edges.items l.nets.names.now (drop l.place l.lines) (drop (l.inputs + l.place) l.nets.names.now)
      ≡ l.fn.draft.gates ++ line_gates l.nets.places.now.edges.items l.nets.names.now l.lines (drop l.inputs l.nets.names.now);
}
