use Rattle.std.proofs.Common.{length, ap, ◌∙◌, subst}
use Rattle.eco_netlist.specs.declared.draft.TargetRule.TheVariants.{Never}
use Rattle.eco_netlist.specs.Refusals.{Refuses}
use Rattle.eco_aiger.specs.Meaning.{Naming, declared_by}
use Rattle.eco_aiger.specs.Parts.{file_of}
use Rattle.eco_aiger.proofs.NameLaws.{length-port_names}
use Rattle.eco_aiger.proofs.reader.finished.Goals as goal

pub declare-declared-requires : goal.declare-declared-requires
declare-declared-requires c = ap (λ (n : Naming). length n.ports) c.in_ok-names.ensures ∙ length-port_names (file_of c.args.tree.now)

pub returns-in-Err-Refused-clause-err : goal.returns-in-Err-Refused-clause-err
returns-in-Err-Refused-clause-err c =
    let f = file_of c.args.tree.now in
    let draft = c.in_ok-draft.ensures ∙ ap (λ n. declared_by n f) c.in_ok-names.ensures in
    (c.requires.once, c.requires.all, subst (λ d. Refuses Never d c.in-Err-Refused.refusal) draft (rw c.in-Err-Refused.field-0-is at c.in-Err-Refused.ensures.refused))
