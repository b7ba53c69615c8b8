-- The copy lies behind the others, and the pair tells where.
use Rattle.std.proofs.Common.{◌≡◌, [], ◌∷◌, ◌++◌, length, ap, ◌∙◌, arith}
use Rattle.eco_cdcl.specs.Pairs.{twos_of}
use Rattle.eco_cdcl.proofs.Seating.{twos_pushed}
use Rattle.eco_cdcl.proofs.pairs.Pairs.push.Goals as goal

pub returns : goal.returns
returns c =
    let lits = c.self.inside.codes.items in
    let seats = c.self.inside.pairs.items in
    let more = c.args.clause.now in
    let one = c.args.one in
    let other = c.args.other in
    let copied = c.in_ok-copy.ensures.copied in
    let first : c.len-start.result ≡ length lits = omega (arith, c.len-start.ensures, c.self.inside.codes.ok.0) in
    let last : c.len-end.result ≡ length (lits ++ more) = omega (arith, c.len-end.ensures, c.copy.new.codes.ok.0, ap length copied) in
    let seat : c.new.result ≡ record { one = one; other = other; start = length lits; end = length (lits ++ more) } =
    c.new.ensures
    ∙ ap (λ n. record { one = one; other = other; start = n; end = c.len-end.result }) first
    ∙ ap (λ n. record { one = one; other = other; start = length lits; end = n }) last
    in
    ap (twos_of c.copy.new.codes.items) (c.in_ok-push.ensures.items ∙ ap (λ s. seats ++ s ∷ []) seat)
    ∙ ap (λ l. twos_of l (seats ++ record { one = one; other = other; start = length lits; end = length (lits ++ more) } ∷ [])) copied
    ∙ twos_pushed lits more seats one other c.self.invariant
    ∙ ap (λ ts. ts ++ record { one = one; other = other; lits = more } ∷ []) c.self.view_is
