-- What a writer of tokens writes: cells, each a token with the white space behind it.
use Rattle.std.specs.Prelude.{◌≡◌, ℕ, Bool, true, false, ◌||◌, List, [], ◌∷◌, ◌++◌}
use Rattle.std.specs.List.{list_all}
use Rattle.eco_tokens.specs.declared.TokenKind.{TokenKind}
use Rattle.eco_tokens.specs.declared.TokenKind.TheVariants.{Simple, Word, Escaped, Constant, Mark}
use Rattle.eco_tokens.specs.Bytes.{is_blank, is_separator}
use Rattle.eco_tokens.specs.Forms.{has_form}
use Rattle.eco_tokens.specs.Said.{Said}

pub record Cell : Type 0 where
  pub kind : TokenKind
  pub text : List ℕ
  pub space : List ℕ

-- the token of a cell
abbrev pub said_by : Cell → Said
said_by cell = record { kind = cell.kind; text = cell.text }

-- the bytes of cells
abbrev pub printed : List Cell → List ℕ
printed [] = []
printed (cell ∷ cells) = cell.text ++ (cell.space ++ printed cells)

abbrev pub is_spaced : List ℕ → Bool
is_spaced [] = false
is_spaced (b ∷ more) = true

-- nothing needs to stand behind a token of this kind with this white space behind it
unfoldable pub is_closed : TokenKind → List ℕ → Bool
is_closed Simple space = is_spaced space
is_closed Word space = is_spaced space
is_closed Escaped space = is_spaced space
is_closed Constant space = true
is_closed Mark space = true

abbrev pub is_mark_kind : TokenKind → Bool
is_mark_kind Simple = false
is_mark_kind Word = false
is_mark_kind Escaped = false
is_mark_kind Constant = false
is_mark_kind Mark = true

-- a mark comes next, or nothing
unfoldable pub is_mark_next : List Cell → Bool
is_mark_next [] = true
is_mark_next (cell ∷ cells) = is_mark_kind cell.kind

-- The token ends where it should before these cells: an identifier has white space behind it or a
-- mark or nothing, an escaped identifier has white space behind it.
unfoldable pub is_parted : TokenKind → List ℕ → List Cell → Bool
is_parted Simple space next = is_spaced space || is_mark_next next
is_parted Word space next = is_spaced space || is_mark_next next
is_parted Escaped space next = is_spaced space
is_parted Constant space next = true
is_parted Mark space next = true

-- no byte behind it makes the token a longer mark: it is none, or a separator
unfoldable pub is_alone : TokenKind → List ℕ → Bool
is_alone Simple text = true
is_alone Word text = true
is_alone Escaped text = true
is_alone Constant text = true
is_alone Mark text = list_all is_separator text

-- the token has the form of its kind, is no operator, and white space alone is behind it
pub record IsCell (cell : Cell) : Type 0 where
  pub form : has_form cell.kind cell.text ≡ true
  pub alone : is_alone cell.kind cell.text ≡ true
  pub space : list_all is_blank cell.space ≡ true

-- what a writer may write: each is a cell, and parted from the next
abbrev pub ArePrinted : List Cell → Type 0
ArePrinted [] = Unit {0}
ArePrinted (cell ∷ cells) = IsCell cell × (is_parted cell.kind cell.space cells ≡ true) × ArePrinted cells

-- cells behind which anything may stand
unfoldable pub ends_closed : List Cell → Bool
ends_closed [] = true
ends_closed (cell ∷ []) = is_closed cell.kind cell.space
ends_closed (cell ∷ next ∷ cells) = ends_closed (next ∷ cells)
