use Rattle.std.proofs.Common.{◌≡◌, [], take, fold}
use Rattle.eco_aiger.specs.Meaning.{and_gates, line_seen}
use Rattle.eco_aiger.specs.Declaring.{with_gates}
use Rattle.eco_aiger.proofs.declare.add_seen_lines.Given as goal

abbrev pub invariant-loop-and : goal.invariant-loop-and
invariant-loop-and l = record {
  gates : l.draft ≡ with_gates l.initial.draft (and_gates l.names [] (take l.and-index l.ands));
  seen : l.seen.keys ≡ fold line_seen [] (take l.and-index l.ands);
}
