use Rattle.eco_weight.specs.Gathering.{Gathers}
use Rattle.eco_weight.proofs.FileLemmas.{ok_there, line_there, twice_there, answer_from_fault, answer_from_gathered, at_told, IsAnswer}
use Rattle.eco_weight.proofs.reader.read.Goals as goal

unread : (c : goal.After-from_residual) → IsAnswer c.args.bytes.now c.from_residual.result
unread c = answer_from_fault c.args.bytes.now c.from_residual.result c.in_err-gathered.field-0.0 c.from_residual.ensures.1 c.in_err-gathered.ensures.fault

pub returns-in_err-gathered-clause-ok_there : goal.returns-in_err-gathered-clause-ok_there
returns-in_err-gathered-clause-ok_there c = ok_there c.args.bytes.now c.from_residual.result (unread c)

pub returns-in_err-gathered-clause-line_there : goal.returns-in_err-gathered-clause-line_there
returns-in_err-gathered-clause-line_there c = line_there c.args.bytes.now c.from_residual.result (unread c)

pub returns-in_err-gathered-clause-twice_there : goal.returns-in_err-gathered-clause-twice_there
returns-in_err-gathered-clause-twice_there c = twice_there c.args.bytes.now c.from_residual.result (unread c)

finished : (c : goal.After-finish) → IsAnswer c.args.bytes.now c.finish.result
finished c =
    let collects = c.in_ok-gathered.ensures.ok in
    let there = at_told (λ told. Gathers told c.in_ok-gathered.gathered.lines.entries c.in_ok-gathered.gathered.twice) c.finish.result collects.told collects.gathers c.finish.ensures.ok c.finish.ensures.refused in
    answer_from_gathered c.args.bytes.now c.finish.result collects.told collects.tell there.0 there.1

pub returns-clause-refused : goal.returns-clause-refused
returns-clause-refused c = (finished c).refused

pub returns-clause-ok_there : goal.returns-clause-ok_there
returns-clause-ok_there c = ok_there c.args.bytes.now c.finish.result (finished c)

pub returns-clause-line_there : goal.returns-clause-line_there
returns-clause-line_there c = line_there c.args.bytes.now c.finish.result (finished c)

pub returns-clause-twice_there : goal.returns-clause-twice_there
returns-clause-twice_there c = twice_there c.args.bytes.now c.finish.result (finished c)
