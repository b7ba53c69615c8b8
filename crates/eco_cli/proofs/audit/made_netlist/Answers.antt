use Rattle.std.proofs.Common.{ℕ, List, refl, rules, subst}
use Rattle.eco_netlist.specs.declared.draft.TargetRule.TheVariants.{Never}
use Rattle.eco_words.specs.CommandLine.{audit_options_of}
use Rattle.eco_inputs.specs.declared.TheConstants.{MOST_PROOF_BYTES}
use Rattle.eco_inputs.specs.Kinds.{netlist_kind}
use Rattle.eco_inputs.specs.Reading.{Halts, file_row, oversize_of}
use Rattle.eco_inputs.proofs.ReadingLaws.{named_halts}
use Rattle.eco_cli.specs.declared.audit.AuditStop.TheVariants.{InMade}
use Rattle.eco_cli.specs.Audit.{audit_path_of, long_audit, made_row}
use Rattle.eco_cli.proofs.audit.made_netlist.Goals as goal

pub returns-in-Err-clause-err : goal.returns-in-Err-clause-err
returns-in-Err-clause-err g c =
    let options = audit_options_of c.args.command.now in
    named_halts (long_audit options) (oversize_of (audit_path_of options c.args.file) MOST_PROOF_BYTES) (InMade c.args.file) (made_row options c.args.file) _ _ (λ own. refl)
    c.in-Err.halt
    (subst (λ (path : List ℕ). Halts (oversize_of path MOST_PROOF_BYTES) (file_row (netlist_kind Never) path MOST_PROOF_BYTES) (g.S.Store.view c.args.store.now) (g.S.Store.view c.closed_netlist.new.store) c.in-Err.halt) c.path_of.ensures c.in-Err.ensures.err)
    c.map.result (c.map.ensures (InMade c.args.file) (λ own made e. search rules))
