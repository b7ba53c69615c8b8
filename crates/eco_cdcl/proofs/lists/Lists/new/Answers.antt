-- No list has an entry yet.
use Rattle.eco_cdcl.proofs.ListLaws.{none_listed}
use Rattle.eco_cdcl.proofs.lists.Lists.new.Goals as goal

pub returns-clause-empty : goal.returns-clause-empty
returns-clause-empty c = none_listed (λ v. v.items) c.in_ok-empty_lists.field-0.items c.in_ok-empty_lists.ensures.empty
