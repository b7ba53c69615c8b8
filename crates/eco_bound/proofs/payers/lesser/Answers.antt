-- One candidate more.
use Rattle.std.proofs.Common.{◌∙◌, sym, subst, ◌++◌, ◌∷◌, [], Some}
use Rattle.eco_bound.specs.Payers.{IsLeastLeft}
use Rattle.eco_bound.proofs.PayerLaws.{least_begins, least_goes_on}
use Rattle.eco_bound.proofs.payers.lesser.Goals as goal

pub returns-in-Some : goal.returns-in-Some
returns-in-Some c others is =
    let sight = c.args.sight.now in
    let payer = c.args.payer in
    subst (λ least. IsLeastLeft sight (others ++ payer ∷ []) (Some least)) (sym c.min.ensures)
    (least_goes_on sight others payer c.in-Some.other (sym c.tells_apart.ensures ∙ c.if-not-tells_apart.false) (subst (IsLeastLeft sight others) c.in-Some.is is))

pub returns-in-None : goal.returns-in-None
returns-in-None c others is =
    let sight = c.args.sight.now in
    least_begins sight others c.args.payer (sym c.tells_apart.ensures ∙ c.if-not-tells_apart.false) (subst (IsLeastLeft sight others) c.in-None.is is)
