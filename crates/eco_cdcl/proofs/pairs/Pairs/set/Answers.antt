-- The pair's place holds the two other literals.
use Rattle.std.proofs.Common.{◌≡◌, ◌<◌, length, set, slice_get, Some, ap, ◌∙◌, arith}
use Rattle.std.proofs.lemmas.List.{length-map}
use Rattle.eco_cdcl.specs.Pairs.{two_of, twos_of, moved_to}
use Rattle.eco_cdcl.proofs.Seating.{twos_set}
use Rattle.eco_cdcl.proofs.pairs.Pairs.set.Goals as goal

pub returns : goal.returns
returns c two found =
    let lits = c.self.inside.codes.items in
    let seats = c.self.inside.pairs.items in
    let i = c.args.number in
    let one = c.args.one in
    let other = c.args.other in
    let seat = c.index_mut-pair.result.now in
    let within : i < length seats = omega (arith, c.requires.within, ap length c.self.view_is, length-map seats (two_of lits)) in
    let there : slice_get (twos_of lits seats) i ≡ Some two = ap (λ ts. slice_get ts i) c.self.view_is ∙ found in
    let new : c.new.result ≡ record { one = one; other = other; start = seat.start; end = seat.end } =
    c.new.ensures
    ∙ ap (λ n. record { one = one; other = other; start = n; end = c.end.result }) c.start.ensures
    ∙ ap (λ n. record { one = one; other = other; start = seat.start; end = n }) c.end.ensures
    in
    ap (λ s. twos_of lits (set seats i s)) new
    ∙ twos_set lits seats i seat one other two within c.index_mut-pair.ensures.value there
    ∙ ap (λ ts. set ts i (moved_to two one other)) c.self.view_is
