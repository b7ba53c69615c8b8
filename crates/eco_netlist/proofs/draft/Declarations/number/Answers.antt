use Rattle.std.proofs.Common.{[]}
use Rattle.std.proofs.lemmas.Option.{slice_get_within, get_or_from_slice_get}
use Rattle.std.proofs.lemmas.Result.{IfOk-weaker}
use Rattle.eco_netlist.proofs.DraftedLemmas.{declared_of-longer, IsDrafted-longer}
use Rattle.eco_netlist.proofs.draft.Declarations.number.Goals as goal

pub returns-clause-same : goal.returns-clause-same
returns-clause-same c =
    let x = c.args.self.now in
    declared_of-longer x (record x { names = c.number.new.names }) c.requires c.number.ensures.grown

pub returns-clause-named : goal.returns-clause-named
returns-clause-named c =
    IfOk-weaker c.number.result _ _ (λ net at. get_or_from_slice_get c.number.new.names.keys net.0 c.args.name [] at) c.number.ensures.named

pub returns-clause-within : goal.returns-clause-within
returns-clause-within c =
    IfOk-weaker c.number.result _ _ (λ net at. slice_get_within c.number.new.names.keys net.0 c.args.name at) c.number.ensures.named

pub returns-clause-drafted : goal.returns-clause-drafted
returns-clause-drafted c =
    let x = c.args.self.now in
    IsDrafted-longer x (record x { names = c.number.new.names }) c.requires c.number.ensures.grown
