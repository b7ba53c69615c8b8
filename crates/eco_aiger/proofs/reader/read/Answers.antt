use Rattle.std.proofs.Common.{map, ap, sym, ◌∙◌, subst}
use Rattle.eco_aiger.specs.Parts.{file_of, AreLines}
use Rattle.eco_aiger.proofs.Outcomes.{text_found, refused_found, no_text}
use Rattle.eco_aiger.proofs.Sizes.{few_nets_found, few_terms_found}
use Rattle.eco_aiger.proofs.reader.read.Goals as goal

pub returns-in-Ok-clause-ok : goal.returns-in-Ok-clause-ok
returns-in-Ok-clause-ok c =
    let f = file_of c.in-Ok.tree in
    let are = subst (λ rows. AreLines rows f) (ap (map (λ line. line.now)) c.as_slice.ensures.value ∙ c.in_ok-lines.ensures) c.in-Ok.ensures.ok in
    text_found c.args.bytes.now f are c.netlist_of-netlist.result c.netlist_of-netlist.ensures.ok

pub returns-in-Ok-clause-refused : goal.returns-in-Ok-clause-refused
returns-in-Ok-clause-refused c =
    let f = file_of c.in-Ok.tree in
    let are = subst (λ rows. AreLines rows f) (ap (map (λ line. line.now)) c.as_slice.ensures.value ∙ c.in_ok-lines.ensures) c.in-Ok.ensures.ok in
    refused_found c.args.bytes.now f are c.netlist_of-netlist.result c.netlist_of-netlist.ensures.err

pub returns-in-Err-Line-clause-refused : goal.returns-in-Err-Line-clause-refused
returns-in-Err-Line-clause-refused c =
    let none = rw c.in-Err-Line.field-0-is at c.in-Err-Line.ensures.err in
    no_text c.args.bytes.now
    (λ f are. none f (subst (λ rows. AreLines rows f) (sym (ap (map (λ line. line.now)) c.as_slice.ensures.value ∙ c.in_ok-lines.ensures)) are))

pub returns-in-Ok-clause-few_nets : goal.returns-in-Ok-clause-few_nets
returns-in-Ok-clause-few_nets c = few_nets_found c.args.bytes.now c.netlist_of-netlist.result (returns-in-Ok-clause-ok c)

pub returns-in-Ok-clause-few_terms : goal.returns-in-Ok-clause-few_terms
returns-in-Ok-clause-few_terms c = few_terms_found c.args.bytes.now c.netlist_of-netlist.result (returns-in-Ok-clause-ok c)
