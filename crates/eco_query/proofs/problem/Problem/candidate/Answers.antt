use Rattle.std.proofs.Common.{◌∙◌, sym, ap}
use Rattle.std.specs.Prelude.{is_some}
use Rattle.std.proofs.lemmas.Bool.{false≢true}
use Rattle.eco_query.proofs.problem.Problem.candidate.Goals as goal

pub returns-then-is_open : goal.returns-then-is_open
returns-then-is_open c = λ before target behind targets place.
    let is_open = (c.is_open.ensures before target behind targets place).0 c.if-is_open.true in
    let weight = c.is_some.ensures ∙ ap is_some c.weight.ensures in (
      λ some. record { signal = is_open.0; weighted = sym weight ∙ some; apart = is_open.1 },
      λ is. weight ∙ is.weighted,
    )

pub returns-else-is_open : goal.returns-else-is_open
returns-else-is_open c = λ before target behind targets place. (
  λ yes. absurd (false≢true (sym c.if-is_open.false ∙ yes)),
  λ is. (c.is_open.ensures before target behind targets place).1 (is.signal, is.apart),
)
