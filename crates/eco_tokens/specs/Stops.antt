-- Where bytes stop being white space, comments and tokens.
use Rattle.std.specs.Prelude.{◌≡◌, ℕ, ◌<◌, List, [], ◌∷◌, ◌++◌, drop, length}
use Rattle.eco_tokens.specs.Pieces.{Piece, piece_text, text_of, EndsBefore}

-- each piece stands before what follows it, and behind the last one `rest`
abbrev pub EndBefore : List Piece → List ℕ → Type 0
EndBefore [] rest = Unit {0}
EndBefore (piece ∷ pieces) rest = EndsBefore piece (text_of pieces ++ rest) × EndBefore pieces rest

-- The bytes before `at` are pieces, each before what follows it; a byte stands at `at`, and no piece begins there.
pub record StopsAt (bytes : List ℕ) (at : ℕ) : Type 0 where
  pub pieces : List Piece
  pub joined : text_of pieces ++ drop at bytes ≡ bytes
  pub each : EndBefore pieces (drop at bytes)
  pub within : at < length bytes
  pub none : (piece : Piece) (after : List ℕ) → drop at bytes ≡ piece_text piece ++ after → EndsBefore piece after → ⊥
