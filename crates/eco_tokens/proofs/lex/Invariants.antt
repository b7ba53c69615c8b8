-- What was read, and then what the rest says, is what all the bytes say; each lexeme stands among them.
use Rattle.std.proofs.Common.{length}
use Rattle.eco_tokens.proofs.Steps.{IsRead}
use Rattle.eco_tokens.proofs.lex.Given as goal

abbrev pub invariant-loop-rest : goal.invariant-loop-rest
invariant-loop-rest l = IsRead l.bytes l.rest l.lexemes.items

abbrev pub decreases-loop-rest : goal.decreases-loop-rest
decreases-loop-rest l = length l.rest
