use Rattle.std.proofs.Common.{◌≡◌, Some, refl, sym, ◌∙◌, subst}
use Rattle.std.specs.List.{slice_get}
use Rattle.std.proofs.lemmas.Bool.{false≢true}
use Rattle.eco_meaning.specs.Circuit.{Circuit, names}
use Rattle.eco_query.proofs.FirstTurns.{turn_is}
use Rattle.eco_query.proofs.order.turn_of.Goals as goal
use Rattle.eco_query.proofs.order.turn_of.Goals.{then-marked-via-then-marked, then-marked-via-else-marked+then-not-is_open}

pub returns-then-marked : goal.returns-then-marked
returns-then-marked c = λ before target behind targets place is.
    elim c.then-marked.branch [
      | then-marked-via-then-marked w ↦ w.if-marked.true
      | then-marked-via-else-marked+then-not-is_open w ↦
          absurd (false≢true (sym w.if-not-is_open.true ∙ (w.is_open.ensures before target behind targets place).1 (is.signal, is.apart)))
    ]

pub returns-in-Some : goal.returns-in-Some
returns-in-Some c =
    let p = c.args.problem.now in
    let named = subst (λ (f : Circuit). slice_get (names f) c.args.net.0 ≡ Some c.name_of.result.now) c.implementation.ensures.value c.name_of.ensures in (
      refl,
      c.if-marked.false,
      turn_is p.implementation p.weights p.input_weight c.args.i record { net = c.args.net; name = c.name_of.result; weight = c.in-Some.weight }
          named (sym c.weight.ensures ∙ c.in-Some.is)
          (λ before target behind targets place. (c.is_open.ensures before target behind targets place).0 c.if-not-is_open.false),
    )
