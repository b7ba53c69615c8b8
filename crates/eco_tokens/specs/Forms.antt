-- The forms of tokens (IEEE 1364-2005, clause 3), of which the profile has a part.
use Rattle.std.specs.Prelude.{ℕ, Bool, false, not, ◌||◌, ◌&&◌, ◌==◌, List, [], ◌∷◌, codes}
use Rattle.std.specs.List.{list_all}
use Rattle.std.specs.Str.{bytes_eq}
use Rattle.eco_meaning.specs.Names.{is_printing}
use Rattle.eco_tokens.specs.declared.TokenKind.{TokenKind}
use Rattle.eco_tokens.specs.declared.TokenKind.TheVariants.{Simple, Word, Escaped, Constant, Mark}
use Rattle.eco_tokens.specs.Bytes.{is_first, is_later, is_mark, is_pair}
use Rattle.eco_tokens.specs.Words.{is_reserved}

-- a simple identifier, whether it is reserved or not: a letter or `_`, then letters, digits, `_`, `$`
unfoldable pub is_simple : List ℕ → Bool
is_simple [] = false
is_simple (b ∷ more) = is_first b && list_all is_later more

-- a simple identifier that may be a name
unfoldable pub is_plain : List ℕ → Bool
is_plain text = is_simple text && not (is_reserved text)

-- what an escaped identifier may name: one or more visible characters
unfoldable pub is_visible : List ℕ → Bool
is_visible [] = false
is_visible (b ∷ more) = is_printing b && list_all is_printing more

-- An escaped identifier: a backslash, and what it names. Where it is the longest, it ends before white
-- space or the end of the text, since no other byte that isn't visible begins a piece.
unfoldable pub is_escaped : List ℕ → Bool
is_escaped [] = false
is_escaped (b ∷ more) = b == 92 && is_visible more

-- the two constants of one bit
unfoldable pub is_constant : List ℕ → Bool
is_constant text = bytes_eq text (codes "1'b0") || bytes_eq text (codes "1'b1")

-- one mark: a separator, `=`, or an operator of one or two bytes
unfoldable pub is_mark_text : List ℕ → Bool
is_mark_text [] = false
is_mark_text (b ∷ []) = is_mark b
is_mark_text (b ∷ c ∷ []) = is_pair b c
is_mark_text (b ∷ c ∷ d ∷ more) = false

-- the text has the form of this kind of token
unfoldable pub has_form : TokenKind → List ℕ → Bool
has_form Simple text = is_plain text
has_form Word text = is_simple text && is_reserved text
has_form Escaped text = is_escaped text
has_form Constant text = is_constant text
has_form Mark text = is_mark_text text
