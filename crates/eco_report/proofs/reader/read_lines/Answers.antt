use Rattle.std.proofs.Common.{arith, subst}
use Rattle.eco_report.specs.Reading.{Steps}
use Rattle.eco_report.proofs.Answered.{line_wrong, line_read, cut_length, all_read}
use Rattle.eco_report.proofs.reader.read_lines.Goals as goal

pub returns-in_default-2-clause-refused : goal.returns-in_default-2-clause-refused
returns-in_default-2-clause-refused c =
    let none = subst (Steps c.loop-line.state c.in-Some.line.now) c.in_default-2.is c.in_ok-next.ensures in
    line_wrong c.args.bytes.now c.loop-line.rest.now c.in-Some.line.now c.in-Some.more.now c.loop-line.number c.loop-line.state c.in-Some.ensures none c.loop-line.invariant.read

pub loop-line-preserved : goal.loop-line-preserved
loop-line-preserved c =
    let next = subst (Steps c.loop-line.state c.in-Some.line.now) c.in-Some-2.is c.in_ok-next.ensures in
    record {
      read = line_read c.args.bytes.now c.loop-line.rest.now c.in-Some.line.now c.in-Some.more.now c.loop-line.number c.loop-line.state c.in-Some-2.next c.in-Some.ensures next c.loop-line.invariant.read;
      room = omega (arith, cut_length 10 c.loop-line.rest.now c.in-Some.line.now c.in-Some.more.now c.in-Some.ensures);
    }

pub returns-clause-ok : goal.returns-clause-ok
returns-clause-ok c =
    all_read c.args.bytes.now c.loop-line.rest.now c.loop-line.number c.loop-line.state c.read_last.result c.loop-line.invariant.read c.in_default.ensures c.read_last.ensures.ok
