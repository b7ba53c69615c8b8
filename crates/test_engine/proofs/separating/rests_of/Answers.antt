-- The rows have a bit for each target behind this one.
use Rattle.std.proofs.Common.{◌≡◌, ℕ, Bool, List, length, subst}
use Rattle.std.specs.List.{All}
use Rattle.test_engine.proofs.separating.rests_of.Goals as goal

pub returns : goal.returns
returns g c = record {
  rows = λ before target behind are len.
      subst (λ (count : ℕ). All (λ (row : List Bool). length row ≡ count) c.rows_of.result.items) (c.behind.ensures before target behind are len) c.rows_of.ensures;
}
