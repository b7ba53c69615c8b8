-- The tokens ahead of a reader that goes through bytes from the front.
use Rattle.std.specs.Prelude.{ℕ, zero, suc, List, [], ◌∷◌, length, take, drop, Option, Some, None}
use Rattle.std.specs.Borrow.{Bor}
use Rattle.eco_tokens.specs.declared.TokenKind.TheVariants.{Mark}
use Rattle.eco_tokens.specs.declared.Lexeme.{Lexeme}
use Rattle.eco_tokens.specs.declared.fronts.Front.{Front}
use Rattle.eco_tokens.specs.declared.fronts.Front.TheVariants.{Gap, Found, Bad}
use Rattle.eco_tokens.specs.Front.{front_of}
use Rattle.eco_tokens.specs.Said.{Said, said_of}

-- a mark without bytes, which no text has: it is said where a byte stands that begins no piece
abbrev pub nothing : Said
nothing = record { kind = Mark; text = [] }

-- what was found at the front of bytes, and what `next` says of the bytes behind it
abbrev pub tokens_by : (List ℕ → List Said) → List ℕ → Front → List Said
tokens_by next bytes (Gap n) = next (drop n bytes)
tokens_by next bytes (Found kind n) = record { kind = kind; text = take n bytes } ∷ next (drop n bytes)
tokens_by next bytes Bad = nothing ∷ []

-- the tokens that so many steps come to
unfoldable pub tokens_within : ℕ → List ℕ → List Said
tokens_within zero bytes = []
tokens_within (suc n) [] = []
tokens_within (suc n) (b ∷ more) = tokens_by (λ rest. tokens_within n rest) (b ∷ more) (front_of (b ∷ more))

-- The tokens of bytes up to their end, or up to the first byte that begins no piece, for which `nothing` stands.
unfoldable pub tokens_ahead : List ℕ → List Said
tokens_ahead bytes = tokens_within (length bytes) bytes

-- the token that was found, if one was, and those ahead of it
abbrev pub tokens_from : Option (Lexeme × Bor (List ℕ)) → List Said
tokens_from None = []
tokens_from (Some found) = said_of found.0 ∷ tokens_ahead found.1.now
