use Rattle.std.proofs.Common.{sym, subst}
use Rattle.eco_prooftext.specs.TraceRead.{ReadsAs, TakesLine}
use Rattle.eco_prooftext.proofs.FileLaws.{takes_blank, takes_step}
use Rattle.eco_prooftext.proofs.trace_reader.take_line.Goals as goal

pub returns-in-Blank-clause-sound : goal.returns-in-Blank-clause-sound
returns-in-Blank-clause-sound c = λ _.
    takes_blank c.args.line.now c.args.steps.now.items (subst (ReadsAs c.args.line.now) c.in-Blank.is c.in_ok-read_line.ensures)

pub returns-in_ok-push-in-Taken-clause-sound : goal.returns-in_ok-push-in-Taken-clause-sound
returns-in_ok-push-in-Taken-clause-sound c = λ _.
    subst (TakesLine c.args.line.now c.args.steps.now.items) (sym c.in_ok-push-in-Taken.ensures.items)
    (takes_step c.args.line.now c.args.steps.now.items c.in-Taken.step (subst (ReadsAs c.args.line.now) c.in-Taken.is c.in_ok-read_line.ensures))
