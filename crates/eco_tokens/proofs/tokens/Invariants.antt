-- Each token so far is the place of a lexeme.
use Rattle.std.proofs.Common.{◌≡◌, map, take}
use Rattle.eco_tokens.specs.Said.{token_of}
use Rattle.eco_tokens.proofs.tokens.Given as goal

abbrev pub invariant-loop-lexeme : goal.invariant-loop-lexeme
invariant-loop-lexeme l = l.tokens.items ≡ map token_of (take l.lexeme-index l.lexeme-items)
