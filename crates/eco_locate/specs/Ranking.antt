-- How the walk over the gates before a net stands.
use Rattle.std.specs.Prelude.{◌≡◌, ◌+◌, ◌<◌, ◌≤◌, ℕ, not, length, count_by, All}
use Rattle.eco_locate.specs.declared.cone.Cone.{Cone}

-- the gates that were met, and those that wait, are some of those that have marks
pub record IsCone (cone : Cone) : Type 0 where
  pub met : All (λ i. i < length cone.seen.items) cone.met.items
  pub waiting : All (λ i. i < length cone.seen.items) cone.waiting.items

-- how many gates are still to be followed at most
abbrev pub steps_left : Cone → ℕ
steps_left cone = count_by not cone.seen.items + length cone.waiting.items

-- the walk has met gates, and no more are to be followed than before
pub record IsFurther (old new : Cone) : Type 0 where
  pub stands : IsCone new
  pub len : length new.seen.items ≡ length old.seen.items
  pub steps : steps_left new ≤ steps_left old
