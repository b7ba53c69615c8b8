-- Those that have nothing left are candidates of the first target.
use Rattle.std.proofs.Common.{◌∙◌, ℕ, List, IfOk, map, ap, sym, subst}
use Rattle.std.specs.List.{filter}
use Rattle.eco_meaning.specs.Circuit.{names}
use Rattle.eco_gates.specs.declared.gate.NetId.{NetId}
use Rattle.eco_netlist.specs.Netlists.{AreNets}
use Rattle.eco_pose.specs.Questions.{AtTarget}
use Rattle.eco_base.specs.Asking.{AreReadable}
use Rattle.eco_base.specs.Conflicts.{IsConflictFound}
use Rattle.eco_base.specs.Targets.{named_in}
use Rattle.eco_bound.specs.declared.payers.Payer.{Payer}
use Rattle.eco_bound.specs.Payers.{is_spent, net_of}
use Rattle.eco_bound.proofs.RaisingLaws.{readable, spent_nets}
use Rattle.eco_bound.proofs.raising.spent_conflict.Goals as goal

pub conflict-requires-clause-nets : goal.conflict-requires-clause-nets
conflict-requires-clause-nets g c =
    let problem = c.args.target.now.problem in
    let account = c.args.account.now in
    let nets = c.as_slice-2.ensures.value ∙ c.in_ok-nets.ensures ∙ ap (λ (list : List Payer). map net_of (filter is_spent list)) c.as_slice.ensures.value in
    subst (AreNets (names problem.implementation)) (sym nets) (spent_nets problem account.payers.items c.requires.account.payers)

pub conflict-requires-clause-readable : goal.conflict-requires-clause-readable
conflict-requires-clause-readable g c =
    let t = c.args.target.now in
    let account = c.args.account.now in
    let nets = c.as_slice-2.ensures.value ∙ c.in_ok-nets.ensures ∙ ap (λ (list : List Payer). map net_of (filter is_spent list)) c.as_slice.ensures.value in
    subst (λ (n : ℕ). AtTarget t.problem.implementation n (λ before target behind. AreReadable t.problem before (named_in t c.as_slice-2.result.now))) (sym c.requires.first.number)
    (subst (λ (list : List NetId). AtTarget t.problem.implementation 0 (λ before target behind. AreReadable t.problem before (named_in t list))) (sym nets)
    (readable t.problem account.payers.items c.requires.account.payers))

pub returns-clause-conflict : goal.returns-clause-conflict
returns-clause-conflict g c =
    let t = c.args.target.now in
    let nets = c.as_slice-2.ensures.value ∙ c.in_ok-nets.ensures ∙ ap (λ (list : List Payer). map net_of (filter is_spent list)) c.as_slice.ensures.value in
    subst (λ (n : ℕ). IfOk c.conflict.result (IsConflictFound t.problem n t.patches (named_in t (map net_of (filter is_spent c.args.account.now.payers.items))))) c.requires.first.number
    (subst (λ (list : List NetId). IfOk c.conflict.result (IsConflictFound t.problem t.number t.patches (named_in t list))) nets c.conflict.ensures.conflict)
