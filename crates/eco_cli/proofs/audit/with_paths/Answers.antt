use Rattle.eco_words.specs.CommandLine.{audit_options_of}
use Rattle.eco_cli.specs.Audit.{IsAuditedOf, from_material, long_audit, material_rows}
use Rattle.eco_inputs.proofs.ReadingLaws.{front_halts, later_ends}
use Rattle.eco_cli.proofs.audit.with_paths.Goals as goal

pub returns-in-Ok-clause-ends : goal.returns-in-Ok-clause-ends
returns-in-Ok-clause-ends g c =
    let options = audit_options_of c.args.command.now in
    later_ends (long_audit options) (material_rows options) (from_material options) IsAuditedOf _ _ _ c.in-Ok.material
    c.in-Ok.ensures.keeps c.in-Ok.ensures.ok c.with_material.result (c.with_material.ensures.ends _)

pub returns-in-Err-clause-ends : goal.returns-in-Err-clause-ends
returns-in-Err-clause-ends g c =
    let options = audit_options_of c.args.command.now in
    front_halts (long_audit options) (material_rows options) (from_material options) _ _ c.in-Err.halt c.in-Err.ensures.err
