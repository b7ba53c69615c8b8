-- The pair's literal is one of those that the clause watches.
use Rattle.std.proofs.Common.{◌<◌, length, ap, subst, arith}
use Rattle.std.proofs.lemmas.List.{length-map}
use Rattle.eco_cdcl.specs.Pairs.{IsBeside, two_of}
use Rattle.eco_cdcl.proofs.Seating.{beside}
use Rattle.eco_cdcl.proofs.pairs.Pairs.besides.Goals as goal

pub returns : goal.returns
returns c =
    let lits = c.self.inside.codes.items in
    let seats = c.self.inside.pairs.items in
    let within : c.args.number < length seats = omega (arith, c.requires, ap length c.self.view_is, length-map seats (two_of lits)) in
    subst (λ ts. IsBeside ts c.args.number c.args.lit c.besides.result) c.self.view_is
    (beside lits seats c.args.number c.index-pair.result.now c.args.lit c.besides.result within c.index-pair.ensures c.besides.ensures.one_of c.besides.ensures.same)
