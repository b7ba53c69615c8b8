use Rattle.eco_aiger.proofs.DeclareLaws.{lines_more, seen_more}
use Rattle.eco_aiger.proofs.declare.add_seen_lines.Goals as goal

pub loop-and-preserved : goal.loop-and-preserved
loop-and-preserved c = record {
  gates = lines_more c.args.names.now c.args.draft.now c.loop-and.draft c.add_line.new.draft c.loop-and.seen.keys c.add_line.new.seen.keys c.args.ands.now c.loop-and.and-index _ c.loop-and-test.true c.loop-and.invariant.gates c.loop-and.invariant.seen c.in_ok-add_line.ensures.gates;
  seen = seen_more c.args.ands.now c.loop-and.and-index _ c.loop-and.seen.keys c.add_line.new.seen.keys c.loop-and-test.true c.loop-and.invariant.seen c.in_ok-add_line.ensures.seen;
}
