-- A text as pieces: white space, comments and tokens, one after another.
use Rattle.std.specs.Prelude.{◌≡◌, ℕ, Bool, true, false, ◌||◌, ◌&&◌, ◌==◌, ◌≤◌, List, [], ◌∷◌, ◌++◌, length}
use Rattle.std.specs.List.{list_any}
use Rattle.eco_tokens.specs.declared.TokenKind.{TokenKind}
use Rattle.eco_tokens.specs.Bytes.{is_blank}
use Rattle.eco_tokens.specs.Forms.{has_form}

-- `body` is what stands between a comment's marks.
pub data Piece : Type 0 where
  blank : ℕ → Piece
  line : List ℕ → Piece
  block : List ℕ → Piece
  token : TokenKind → List ℕ → Piece

-- the bytes of a piece
abbrev pub piece_text : Piece → List ℕ
piece_text (blank b) = b ∷ []
piece_text (line body) = 47 ∷ 47 ∷ body
piece_text (block body) = 47 ∷ 42 ∷ body ++ 42 ∷ 47 ∷ []
piece_text (token kind text) = text

-- the bytes of pieces, one after another
abbrev pub text_of : List Piece → List ℕ
text_of [] = []
text_of (piece ∷ pieces) = piece_text piece ++ text_of pieces

-- no token of any kind that the same bytes begin with is longer
abbrev pub IsLongest : List ℕ → List ℕ → Type 0
IsLongest text after =
    (kind : TokenKind) (front back : List ℕ) → text ++ after ≡ front ++ back → has_form kind front ≡ true → length front ≤ length text

-- nothing follows, or a line feed
abbrev pub EndsLine : List ℕ → Type 0
EndsLine [] = Unit {0}
EndsLine (b ∷ more) = b ≡ 10

-- the two bytes of a comment's end, `*/`, stand side by side somewhere
unfoldable pub has_end : List ℕ → Bool
has_end (b ∷ c ∷ more) = (b == 42 && c == 47) || has_end (c ∷ more)
has_end (b ∷ []) = false
has_end [] = false

-- The piece may stand before these bytes: a line comment goes up to the line's end, a block comment
-- up to the first `*/`, and a token is the longest at its place.
unfoldable pub EndsBefore : Piece → List ℕ → Type 0
EndsBefore (blank b) after = is_blank b ≡ true
EndsBefore (line body) after = (list_any (λ b. b == 10) body ≡ false) × EndsLine after
EndsBefore (block body) after = has_end body ≡ false
EndsBefore (token kind text) after = (has_form kind text ≡ true) × IsLongest text after

-- each piece stands before what follows it
abbrev pub AllEnd : List Piece → Type 0
AllEnd [] = Unit {0}
AllEnd (piece ∷ pieces) = EndsBefore piece (text_of pieces) × AllEnd pieces

-- the bytes are these pieces
pub record IsCut (bytes : List ℕ) (pieces : List Piece) : Type 0 where
  pub joined : text_of pieces ≡ bytes
  pub each : AllEnd pieces
