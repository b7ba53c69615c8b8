-- The rows have a bit for each target behind this one.
use Rattle.std.proofs.Common.{◌≡◌, ℕ, Bool, List, length, subst}
use Rattle.std.specs.List.{All}
use Rattle.test_engine.proofs.separating.rests_once.Goals as goal

pub returns-clause-rests : goal.returns-clause-rests
returns-clause-rests g c = record {
  rows = λ before target behind are len.
      subst (λ (count : ℕ). All (λ (row : List Bool). length row ≡ count) c.rows_once.result.items) (c.behind.ensures before target behind are len) c.rows_once.ensures.wide;
}
