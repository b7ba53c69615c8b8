use Rattle.std.proofs.Common.{◌≡◌, List, map, sym, subst, arith}
use Rattle.std.proofs.lemmas.Grind.{common_steps}
use Rattle.eco_tokens.specs.declared.Token.{Token}
use Rattle.eco_tokens.specs.Said.{token_of}
use Rattle.eco_tokens.specs.Tokens.{ArePlaces}
use Rattle.eco_tokens.proofs.Laws.{one_list, texts_of_places}
use Rattle.eco_tokens.proofs.tokens.Goals as goal

pub returns-clause-placed : goal.returns-clause-placed
returns-clause-placed c =
    let all : c.loop-lexeme.tokens.items ≡ map token_of c.in_ok-lexemes.lexemes.items = grind (arith, common_steps) in
    subst (λ ts. ArePlaces c.args.bytes.now ts × ((y : List Token) → ArePlaces c.args.bytes.now y → y ≡ ts)) (sym all) c.in_ok-lexemes.ensures.placed

pub returns-clause-texts : goal.returns-clause-texts
returns-clause-texts c =
    let all : c.loop-lexeme.tokens.items ≡ map token_of c.in_ok-lexemes.lexemes.items = grind (arith, common_steps) in
    let texts = texts_of_places c.args.bytes.now _ (subst (ArePlaces c.args.bytes.now) (sym all) c.in_ok-lexemes.ensures.placed.0) in
    (texts, λ y h. one_list c.args.bytes.now y _ h texts)
