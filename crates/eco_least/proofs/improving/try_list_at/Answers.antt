-- The list is one of nets, and what is walked is a base.
use Rattle.std.proofs.Common.{sym, subst}
use Rattle.std.specs.Option.{IfSome}
use Rattle.eco_base.specs.Targets.{TargetValue}
use Rattle.eco_least.specs.Weighed.{IsBase, IsWalkedLast}
use Rattle.eco_least.proofs.WeighedLaws.{part_nets}
use Rattle.eco_least.proofs.AccountLaws.{walked_base}
use Rattle.eco_least.proofs.improving.try_list_at.Goals as goal

pub walk_last-requires-clause-last : goal.walk_last-requires-clause-last
walk_last-requires-clause-last g c = part_nets c.args.target.now c.args.weighed.now c.requires.weighed c.args.list.now c.requires.list

pub settled-requires : goal.settled-requires
settled-requires g c =
    let t = c.args.target.now in
    let list = c.args.list.now in
    let chosen = c.in-Ok-Some.chosen in
    subst (λ (t : TargetValue). IsBase t chosen) (sym c.in-Ok-Some.ensures.stays)
    (walked_base t list chosen (subst (λ found. IfSome found (IsWalkedLast t list)) c.in-Ok-Some.field-0-is c.in-Ok-Some.ensures.walked))

pub returns-in-Ok-None-clause-look : goal.returns-in-Ok-None-clause-look
returns-in-Ok-None-clause-look g c = c.after.ensures c.args.target.now
