-- One more that is wrong, or none.
use Rattle.std.proofs.Common.{[], ◌∷◌, sym, subst}
use Rattle.std.specs.List.{All}
use Rattle.std.proofs.lemmas.List.Elements.{All-append, All-cons, All-nil}
use Rattle.eco_change.specs.declared.failing.Failing.{Failing}
use Rattle.eco_change.specs.Failing.{IsFailing, TellsFailing}
use Rattle.eco_change.proofs.simulating.keep_lane.Goals as goal

pub returns-in_ok-push : goal.returns-in_ok-push
returns-in_ok-push c =
    let f = c.args.change.now.old in
    let asked = c.args.change.now.goal in
    let P : Failing → Type 0 = IsFailing f asked in
    let tells = subst (TellsFailing f asked c.in_ok-input.input) c.in-Some.is c.in_ok-found.ensures in
    subst (All P) (sym c.in_ok-push.ensures.items)
    (All-append P c.args.failing.now.items (c.in-Some.found ∷ []) c.requires.failing (All-cons P c.in-Some.found [] tells.1 (All-nil P)))
