use Rattle.eco_report.proofs.Answered.{report_once}
use Rattle.eco_report.proofs.reader.report_reads_back.Goals as goal

pub returns : goal.returns
returns c = report_once
