-- The variables of the literals so far are added.
use Rattle.std.proofs.Common.{◌≡◌, ℕ, ◌||◌, nat_eq, take}
use Rattle.std.specs.List.{list_any}
use Rattle.std.specs.HashSet.{contains}
use Rattle.eco_trace.proofs.variables.add_variables.Given as goal

abbrev pub invariant-loop-lit : goal.invariant-loop-lit
invariant-loop-lit l = (q : ℕ) → contains nat_eq l.numbers q ≡ (contains nat_eq l.fn.numbers q || list_any (λ k. nat_eq q k.var.0) (take l.lit-index l.clause))
