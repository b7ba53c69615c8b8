use Rattle.std.proofs.Common.{◌≡◌, All}
use Rattle.std.specs.Prelude.{replicate}
use Rattle.test_searches.proofs.covers.equal_rows.Given as goal

abbrev pub invariant-loop : goal.invariant-loop
invariant-loop l = All (λ row. row ≡ replicate l.width l.bit) l.rows.items
