-- The tokens of bytes.
use Rattle.std.specs.Prelude.{◌≡◌, ℕ, ◌+◌, List, [], ◌∷◌, length}
use Rattle.eco_tokens.specs.declared.Token.{Token}
use Rattle.eco_tokens.specs.Said.{Said}
use Rattle.eco_tokens.specs.Pieces.{Piece, piece_text, IsCut}
use Rattle.eco_tokens.specs.Pieces.Piece.{blank, line, block, token}

-- the tokens among pieces, in order
unfoldable pub said : List Piece → List Said
said [] = []
said (token kind text ∷ pieces) = record { kind = kind; text = text } ∷ said pieces
said (blank b ∷ pieces) = said pieces
said (line body ∷ pieces) = said pieces
said (block body ∷ pieces) = said pieces

-- the same with their places, where the first piece stands at `at`: each piece starts where the one before ended
unfoldable pub placed : ℕ → List Piece → List Token
placed at [] = []
placed at (token kind text ∷ pieces) =
    record { kind = kind; start = at; end = at + length text } ∷ placed (at + length text) pieces
placed at (blank b ∷ pieces) = placed (at + length (piece_text (blank b))) pieces
placed at (line body ∷ pieces) = placed (at + length (piece_text (line body))) pieces
placed at (block body ∷ pieces) = placed (at + length (piece_text (block body))) pieces

-- these are the tokens of the bytes
pub record AreTokens (bytes : List ℕ) (tokens : List Said) : Type 0 where
  pub pieces : List Piece
  pub cut : IsCut bytes pieces
  pub told : said pieces ≡ tokens

-- these are the places of the tokens of the bytes
pub record ArePlaces (bytes : List ℕ) (tokens : List Token) : Type 0 where
  pub pieces : List Piece
  pub cut : IsCut bytes pieces
  pub told : placed 0 pieces ≡ tokens
