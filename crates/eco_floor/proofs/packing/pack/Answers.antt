-- The cap may be less than the least.
use Rattle.std.proofs.Common.{◌≡◌, ◌≤◌, ℕ, List, Option, Some, sym, subst, arith}
use Rattle.eco_floor.specs.Search.{rest_at}
use Rattle.eco_floor.proofs.packing.pack.Goals as goal

pub lower-requires : goal.lower-requires
lower-requires c column rest in' at =
    let here = subst (λ (slack : List (Option ℕ)). rest_at slack column ≡ Some rest) (sym c.as_slice.ensures.value) at in
    let most : c.in-Some.amount ≤ rest = c.in-Some.ensures column rest in' here in
    omega (arith, most, c.min-capped.ensures)
