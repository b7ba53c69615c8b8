-- Marked turns are a part of the turns.
use Rattle.std.proofs.Common.{◌∙◌, ap}
use Rattle.eco_least.specs.Weighed.{marked_of}
use Rattle.eco_least.proofs.AccountLaws.{part_of}
use Rattle.eco_least.proofs.lists.list_of.Goals as goal

pub returns : goal.returns
returns c t is =
    part_of t c.args.weighed.now is c.in_ok-list.list.items c.as_slice-2.result.now
    (c.in_ok-list.ensures ∙ ap (λ nets. marked_of nets c.as_slice-2.result.now) c.as_slice.ensures.value)
