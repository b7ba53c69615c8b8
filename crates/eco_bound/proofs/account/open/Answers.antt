-- All weight is left.
use Rattle.std.proofs.Common.{◌∙◌, map, refl, sym, ap, subst}
use Rattle.std.specs.List.{All}
use Rattle.eco_bound.specs.declared.account.Account.{Account}
use Rattle.eco_bound.specs.Accounts.{IsWeighted, full_payer}
use Rattle.eco_bound.proofs.AccountLaws.{opened, weighted_nets}
use Rattle.eco_bound.proofs.account.open.Goals as goal

pub payers_of-requires-clause-weighted : goal.payers_of-requires-clause-weighted
payers_of-requires-clause-weighted c =
    let problem = c.args.problem.now in
    subst (All (IsWeighted problem)) (sym c.as_slice.ensures.value)
    (weighted_nets problem c.in_ok-turns.turns.items c.implementation.ensures.problem.targets c.in_ok-turns.ensures.turns)

pub returns : goal.returns
returns c =
    let problem = c.args.problem.now in
    let account : Account = record { total = 0; parts = c.new.result; payers = c.in_ok-payers.payers } in
    opened problem c.in_ok-turns.turns.items account c.implementation.ensures.problem.targets c.in_ok-turns.ensures.nets c.in_ok-turns.ensures.turns
    refl c.new.ensures.items (c.in_ok-payers.ensures ∙ ap (λ list. map (full_payer problem) list) c.as_slice.ensures.value)
