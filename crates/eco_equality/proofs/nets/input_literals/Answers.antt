-- New literals behind the constant are those of the inputs.
use Rattle.std.proofs.Common.{◌≡◌, ◌+◌, length, OnOk, ap, sym, ◌∙◌, subst}
use Rattle.std.proofs.lemmas.List.{length-map}
use Rattle.std.proofs.lemmas.Result.{IfOk-weaker}
use Rattle.eco_meaning.specs.Circuit.{names}
use Rattle.eco_gates.specs.declared.gate.NetId.{NetId}
use Rattle.eco_netlist.specs.Netlists.{name_at}
use Rattle.eco_trace.specs.Clauses.{Clauses}
use Rattle.eco_clauses.specs.Listing.{with_variables, no_clauses}
use Rattle.eco_equality.specs.Equality.{input_literals}
use Rattle.eco_clauses.specs.Numbering.{new_literals}
use Rattle.eco_equality.proofs.Numbered.{inputs_named}
use Rattle.eco_equality.proofs.nets.input_literals.Goals as goal

pub returns-clause-literals : goal.returns-clause-literals
returns-clause-literals c =
    let left = c.args.left.now in
    let nets = c.inputs.result.now in
    IfOk-weaker c.fresh_literals.result (λ lits. lits.items ≡ new_literals c.args.cnf.now.vars nets) (λ lits. lits.items ≡ input_literals left) (λ lits is.
    inputs_named left nets c.args.cnf.now.vars lits.items c.nets.ensures.checked c.inputs.ensures.named (ap (λ (d : Clauses). d.vars) c.requires) is) c.fresh_literals.ensures.literals

pub returns-clause-cnf : goal.returns-clause-cnf
returns-clause-cnf c =
    let nets = c.inputs.result.now in
    let sizes : length nets ≡ length c.args.left.now.inputs = sym (length-map nets (λ (net : NetId). name_at (names c.args.left.now) net.0)) ∙ ap length c.inputs.ensures.named in
    let all : with_variables (length nets) c.args.cnf.now ≡ no_clauses (1 + length c.args.left.now.inputs) = ap (with_variables (length nets)) c.requires ∙ ap (λ k. no_clauses (1 + k)) sizes in
    subst (λ (d : Clauses). OnOk c.fresh_literals.result (c.fresh_literals.new.cnf ≡ d)) all c.fresh_literals.ensures.more
