use Rattle.std.proofs.Common.{◌∙◌}
use Rattle.eco_netlist.proofs.DraftedLemmas.{name_at-longer, declared_of-longer, IsDrafted-longer}
use Rattle.eco_netlist.proofs.draft.Declarations.gate.Goals as goal

pub returns-in_err-ins-clause-same : goal.returns-in_err-ins-clause-same
returns-in_err-ins-clause-same c =
    let x = c.number.new.self in
    declared_of-longer x (record x { names = c.numbered_terms.new.names }) c.number.ensures.drafted c.numbered_terms.ensures.grown ∙ c.number.ensures.same

pub returns-clause-same : goal.returns-clause-same
returns-clause-same c =
    let x = c.number.new.self in
    declared_of-longer x (record x { names = c.numbered_terms.new.names }) c.number.ensures.drafted c.numbered_terms.ensures.grown ∙ c.number.ensures.same

pub returns-in_err-ins-clause-drafted : goal.returns-in_err-ins-clause-drafted
returns-in_err-ins-clause-drafted c =
    let x = c.number.new.self in
    IsDrafted-longer x (record x { names = c.numbered_terms.new.names }) c.number.ensures.drafted c.numbered_terms.ensures.grown

pub returns-clause-drafted : goal.returns-clause-drafted
returns-clause-drafted c =
    let x = c.number.new.self in
    IsDrafted-longer x (record x { names = c.numbered_terms.new.names }) c.number.ensures.drafted c.numbered_terms.ensures.grown

pub returns-clause-named : goal.returns-clause-named
returns-clause-named c =
    let out = name_at-longer c.number.new.self.names.keys c.numbered_terms.new.names.keys c.in_ok-out.out.0 c.numbered_terms.ensures.grown c.in_ok-out.ensures.within ∙ c.in_ok-out.ensures.named in
    let terms = c.in_ok-ins.ensures.named in
    λ i. record { kind = c.args.kind; out = out i; terms = terms i }
