-- What is found is found of the list.
use Rattle.std.proofs.Common.{Option, IfSome, subst}
use Rattle.eco_base.specs.declared.separating.Pair.{Pair}
use Rattle.eco_least.specs.Rows.{IsConflictOf}
use Rattle.eco_least.proofs.asking.settle.Goals as goal

pub returns-in-Some : goal.returns-in-Some
returns-in-Some c = λ t weighed list account found.
    c.learn.ensures t weighed list account (subst (λ (pair : Option Pair). IfSome pair (IsConflictOf t list)) c.in-Some.is found)
