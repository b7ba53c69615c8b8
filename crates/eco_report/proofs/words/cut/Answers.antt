use Rattle.std.proofs.Common.{arith}
use Rattle.eco_report.proofs.Fields.{cut_none, cut_some}
use Rattle.eco_report.proofs.words.cut.Goals as goal

pub returns-in-empty : goal.returns-in-empty
returns-in-empty c =
    cut_none c.args.mark c.args.bytes.now c.split_at.result.0.now c.split_at.result.1.now c.run_before.result c.run_before.ensures.value c.split_at.ensures.front c.split_at.ensures.back (omega arith)

pub returns-in-len1-up : goal.returns-in-len1-up
returns-in-len1-up c =
    cut_some c.args.mark c.args.bytes.now c.split_at.result.0.now c.split_at.result.1.now c.run_before.result c.run_before.ensures.value c.split_at.ensures.front c.split_at.ensures.back (omega arith)
