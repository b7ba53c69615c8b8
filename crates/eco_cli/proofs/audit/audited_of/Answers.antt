use Rattle.std.proofs.Common.{refl, subst}
use Rattle.eco_words.specs.CommandLine.{audit_options_of}
use Rattle.eco_cli.specs.declared.audit.AuditStop.TheVariants.{SamePath}
use Rattle.eco_cli.specs.Audit.{IsAuditedOf, audit_files_of, from_paths, long_audit}
use Rattle.eco_inputs.specs.Paths.{ArePathsApart, paths_row}
use Rattle.eco_inputs.specs.Rows.{named_row}
use Rattle.eco_inputs.proofs.ReadingLaws.{kept_reads, later_ends}
use Rattle.eco_cli.proofs.audit.audited_of.Goals as goal

pub returns-in-Ok-clause-ends : goal.returns-in-Ok-clause-ends
returns-in-Ok-clause-ends g c =
    later_ends (long_audit (audit_options_of c.args.command.now)) (named_row SamePath (paths_row (audit_files_of (audit_options_of c.args.command.now)))) (λ _. from_paths (audit_options_of c.args.command.now)) IsAuditedOf
    _ _ _ tt (kept_reads _) (record { passed = (subst ArePathsApart c.files_of.ensures c.in-Ok.ensures, refl); no_fault = λ files is. refl }) c.with_paths.result c.with_paths.ensures.ends
