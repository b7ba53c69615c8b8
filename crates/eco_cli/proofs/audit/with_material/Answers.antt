use Rattle.std.proofs.Common.{refl, rules}
use Rattle.eco_words.specs.CommandLine.{audit_options_of}
use Rattle.eco_inputs.specs.Inputs.{long_input, pair_row}
use Rattle.eco_inputs.specs.Rows.{value_row}
use Rattle.eco_inputs.proofs.ReadingLaws.{first_halts}
use Rattle.eco_cli.specs.declared.audit.AuditStop.TheVariants.{NoProblem}
use Rattle.eco_cli.specs.Audit.{audited, long_audit}
use Rattle.eco_cli.proofs.audit.with_material.Goals as goal

pub returns-in-Ok-clause-ends : goal.returns-in-Ok-clause-ends
returns-in-Ok-clause-ends c = λ store.
    let (value, passed, is) = c.in-Ok.ensures store in
    (audited c.in-Ok.problem c.args.material.patch c.args.material.out c.args.material.report, (value, passed, (tt, rw is refl)), refl)

pub returns-in-Err-clause-ends : goal.returns-in-Err-clause-ends
returns-in-Err-clause-ends c = λ store.
    let options = audit_options_of c.args.command.now in
    first_halts (long_audit options) (long_input options.problem) NoProblem (pair_row options.problem c.args.material.inputs)
    (λ problem. value_row (audited problem c.args.material.patch c.args.material.out c.args.material.report)) store store (λ own. refl)
    c.in-Err.halt (c.in-Err.ensures store) c.map.result (c.map.ensures NoProblem (λ own made e. search rules))
