-- Tokens as values: what a token says, without where it stands.
use Rattle.std.specs.Prelude.{ℕ, ◌+◌, ◌-◌, Bool, true, false, List, ◌∷◌, take, drop, length}
use Rattle.eco_tokens.specs.Forms.{is_plain}
use Rattle.eco_tokens.specs.declared.TokenKind.{TokenKind}
use Rattle.eco_tokens.specs.declared.TokenKind.TheVariants.{Simple, Word, Escaped, Constant, Mark}
use Rattle.eco_tokens.specs.declared.Lexeme.{Lexeme}
use Rattle.eco_tokens.specs.declared.Token.{Token}

pub record Said : Type 0 where
  pub kind : TokenKind
  pub text : List ℕ

-- what a name's token names: an escaped identifier's text without the backslash
unfoldable pub name_of : TokenKind → List ℕ → List ℕ
name_of Escaped text = drop 1 text
name_of Simple text = text
name_of Word text = text
name_of Constant text = text
name_of Mark text = text

abbrev pub name_text : Said → List ℕ
name_text said = name_of said.kind said.text

-- a token of this kind is a name
abbrev pub is_name_kind : TokenKind → Bool
is_name_kind Simple = true
is_name_kind Word = false
is_name_kind Escaped = true
is_name_kind Constant = false
is_name_kind Mark = false

-- a name as its plain text, or with a backslash before it
abbrev pub written_by : Bool → List ℕ → Said
written_by true name = record { kind = Simple; text = name }
written_by false name = record { kind = Escaped; text = 92 ∷ name }

-- how a name is written: plain where it may be
abbrev pub written : List ℕ → Said
written name = written_by (is_plain name) name

-- what a lexeme says
abbrev pub said_of : Lexeme → Said
said_of lexeme = record { kind = lexeme.kind; text = lexeme.text.now }

-- where a lexeme stands
abbrev pub token_of : Lexeme → Token
token_of lexeme = record { kind = lexeme.kind; start = lexeme.start; end = lexeme.start + length lexeme.text.now }

-- what a place in these bytes says
abbrev pub said_in : List ℕ → Token → Said
said_in bytes token = record { kind = token.kind; text = take (token.end - token.start) (drop token.start bytes) }
