-- The list can be asked about, and what is found is found of it.
use Rattle.std.proofs.Common.{List, sym, ◌∙◌, ◌++◌, ap, subst}
use Rattle.eco_meaning.specs.Circuit.{names}
use Rattle.eco_gates.specs.declared.gate.NetId.{NetId}
use Rattle.eco_netlist.specs.Netlists.{AreNets}
use Rattle.eco_base.specs.Targets.{AreReadableAt}
use Rattle.eco_least.proofs.WeighedLaws.{base_nets, base_readable}
use Rattle.eco_least.proofs.AccountLaws.{found_here}
use Rattle.eco_least.proofs.asking.try_list.Goals as goal

pub conflict-requires-clause-nets : goal.conflict-requires-clause-nets
conflict-requires-clause-nets g c =
    let t = c.args.target.now in
    let list = c.args.list.now in
    let base = c.as_slice.ensures.value ∙ c.in_ok-base.ensures ∙ ap (λ (paid : List NetId). paid ++ list) c.paid.ensures.paid in
    subst (AreNets (names t.problem.implementation)) (sym base) (base_nets t c.args.weighed.now c.requires.weighed list c.requires.list)

pub conflict-requires-clause-readable : goal.conflict-requires-clause-readable
conflict-requires-clause-readable g c =
    let t = c.args.target.now in
    let list = c.args.list.now in
    let base = c.as_slice.ensures.value ∙ c.in_ok-base.ensures ∙ ap (λ (paid : List NetId). paid ++ list) c.paid.ensures.paid in
    subst (AreReadableAt t) (sym base) (base_readable t c.args.weighed.now c.requires.weighed list c.requires.list)

pub returns-in-Ok-clause-account : goal.returns-in-Ok-clause-account
returns-in-Ok-clause-account g c =
    let t = c.args.target.now in
    let list = c.args.list.now in
    let base = c.as_slice.ensures.value ∙ c.in_ok-base.ensures ∙ ap (λ (paid : List NetId). paid ++ list) c.paid.ensures.paid in
    c.settle.ensures t c.args.weighed.now list c.requires.account (found_here t c.as_slice.result.now list base c.in-Ok.found c.in-Ok.ensures.conflict)
