-- The lists so far are empty.
use Rattle.std.proofs.Common.{◌≡◌, [], All, length}
use Rattle.eco_cdcl.proofs.lists.empty_lists.Given as goal

abbrev pub invariant-loop-list : goal.invariant-loop-list
invariant-loop-list l = (length l.lists.items ≡ l._list) × All (λ v. v.items ≡ []) l.lists.items
