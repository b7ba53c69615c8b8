-- The grammar: the words of the lines that a syntax tree is written with.
use Rattle.std.specs.Prelude.{◌≡◌, ◌≢◌, ℕ, ◌+◌, ◌-◌, ◌*◌, ◌%◌, ◌<◌, ◌≤◌, List, [], ◌∷◌, ◌++◌, length, map, All, IsTrue, nat_lt, ◌==◌, codes, decimal, if◌then◌else◌}
use Rattle.std.specs.List.{slice_split, AllPairs}
use Rattle.std.specs.Str.Lines.{lines}
use Rattle.eco_meaning.specs.Names.{is_name}
use Rattle.eco_aiger.specs.declared.tree.AndLine.{AndLine}
use Rattle.eco_aiger.specs.Syntax.{Symbol, File}

-- the words of a line: what stands between its blanks, each of which parts two words
abbrev pub words_of : List ℕ → List (List ℕ)
words_of line = slice_split (λ byte. byte == 32) line

-- the words of lines
abbrev pub words_in : List (List ℕ) → List (List (List ℕ))
words_in rows = map words_of rows

-- the greatest number that may be written
abbrev pub limit : ℕ
limit = 9223372036854775807

-- the word for a port, where there are so many inputs: `i` and its number among the inputs, or `o` and its number
-- among the outputs, both from 0
abbrev pub port_word : ℕ → ℕ → List ℕ
port_word count port = if nat_lt port count then codes "i" ++ decimal port else codes "o" ++ decimal (port - count)

-- `aag M I L O A`: the greatest variable, the numbers of inputs, of latches, of which there are none, of outputs and
-- of and-lines
abbrev pub header_words : File → List (List ℕ)
header_words f =
    codes "aag" ∷ decimal f.top ∷ decimal (length f.inputs) ∷ codes "0" ∷ decimal (length f.outputs) ∷ decimal (length f.ands) ∷ []

-- a literal alone
abbrev pub literal_words : ℕ → List (List ℕ)
literal_words literal = decimal literal ∷ []

-- the left side, then the right side
abbrev pub and_words : AndLine → List (List ℕ)
and_words a = decimal a.left ∷ decimal a.first ∷ decimal a.second ∷ []

-- the word for the port, then the name
abbrev pub symbol_words : ℕ → Symbol → List (List ℕ)
symbol_words count s = port_word count s.port ∷ s.text ∷ []

-- the header, then a line for each input, each output, each and-line and each symbol
abbrev pub spelling : File → List (List (List ℕ))
spelling f =
    header_words f ∷ (map literal_words f.inputs ++ (map literal_words f.outputs ++ (map and_words f.ands ++ map (symbol_words (length f.inputs)) f.symbols)))

-- a literal of a variable up to the greatest, or of the constant
pub record IsLiteral (top literal : ℕ) : Type 0 where
  pub within : literal ≤ 2 * top + 1
  pub small : literal ≤ limit

-- a literal that defines a variable: not a complement, and not the constant
pub record IsPlain (top literal : ℕ) : Type 0 where
  pub literal_is : IsLiteral top literal
  pub even : literal % 2 ≡ 0
  pub least : 2 ≤ literal

-- an and-line of such literals
pub record IsAnd (top : ℕ) (a : AndLine) : Type 0 where
  pub left_is : IsPlain top a.left
  pub first_is : IsLiteral top a.first
  pub second_is : IsLiteral top a.second

-- a symbol names a port, where there are so many, and its name is one or more printing bytes
pub record IsSymbol (ports : ℕ) (s : Symbol) : Type 0 where
  pub port_is : s.port < ports
  pub text_is : IsTrue (is_name s.text)

-- the numbers of a file are such as may stand there, and no port has two symbols
pub record IsProper (f : File) : Type 0 where
  pub top_small : f.top ≤ limit
  pub inputs_small : length f.inputs ≤ limit
  pub outputs_small : length f.outputs ≤ limit
  pub ands_small : length f.ands ≤ limit
  pub inputs_are : All (IsPlain f.top) f.inputs
  pub outputs_are : All (IsLiteral f.top) f.outputs
  pub ands_are : All (IsAnd f.top) f.ands
  pub symbols_are : All (IsSymbol (length f.inputs + length f.outputs)) f.symbols
  pub named_once : AllPairs (λ s t. s.port ≢ t.port) f.symbols

-- nothing, or the line `c` and any lines behind it
abbrev pub IsEnd : List (List ℕ) → Type 0
IsEnd [] = Unit {0}
IsEnd (line ∷ more) = line ≡ codes "c"

-- the bytes are a text of this file: lines of its words, then perhaps a comment
pub record IsText (bytes : List ℕ) (f : File) : Type 0 where
  pub front : List (List ℕ)
  pub end : List (List ℕ)
  pub cut : lines bytes ≡ front ++ end
  pub words : words_in front ≡ spelling f
  pub ended : IsEnd end
  pub proper : IsProper f
