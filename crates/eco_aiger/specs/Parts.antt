-- What the reader's values stand for, and what it finds in lines.
use Rattle.std.specs.Prelude.{◌≡◌, ◌≢◌, ℕ, ◌+◌, ◌<◌, ◌≤◌, Bool, true, false, List, [], ◌∷◌, ◌++◌, length, map, take, All, codes, decimal, ◌==◌, if◌then◌else◌}
use Rattle.std.specs.List.{AllPairs}
use Rattle.eco_text.specs.Numbers.{IsNumberUpTo}
use Rattle.eco_aiger.specs.declared.error.Unread.{Unread}
use Rattle.eco_aiger.specs.declared.error.Unread.TheVariants.{Line, OutOfMemory}
use Rattle.eco_aiger.specs.declared.tree.AndLine.{AndLine}
use Rattle.eco_aiger.specs.declared.tree.Header.{Header}
use Rattle.eco_aiger.specs.declared.tree.Symbol.{Symbol as Cut}
use Rattle.eco_aiger.specs.declared.tree.Tree.{Tree}
use Rattle.eco_aiger.specs.Syntax.{Symbol, File}
use Rattle.eco_aiger.specs.Grammar.{words_of, words_in, limit, port_word, literal_words, and_words, symbol_words, IsLiteral, IsPlain, IsAnd, IsSymbol, IsEnd}

-- what stands behind the last line feed is a line where it is not empty
abbrev pub unended : List ℕ → List (List ℕ)
unended last = if length last == 0 then [] else last ∷ []

abbrev pub symbol_of : Cut → Symbol
symbol_of s = record { port = s.port; text = s.text.now }

abbrev pub file_of : Tree → File
file_of t = record {
  top = t.top;
  inputs = t.inputs.items;
  outputs = t.outputs.items;
  ands = t.ands.items;
  symbols = map symbol_of t.symbols.items;
}

-- what an error of the lines means; want of memory means nothing
abbrev pub IfUnread : Unread → Type 0 → Type 0
IfUnread (Line n) P = P
IfUnread OutOfMemory P = Unit {0}

-- the word is this literal, of any form or plain
pub record IsLiteralWord (top : ℕ) (word : List ℕ) (literal : ℕ) : Type 0 where
  pub text : word ≡ decimal literal
  pub literal_is : IsLiteral top literal

pub record IsPlainWord (top : ℕ) (word : List ℕ) (literal : ℕ) : Type 0 where
  pub text : word ≡ decimal literal
  pub plain_is : IsPlain top literal

abbrev pub IsOfForm : Bool → ℕ → ℕ → Type 0
IsOfForm true top literal = IsPlain top literal
IsOfForm false top literal = IsLiteral top literal

-- the words are this literal alone
abbrev pub IsFormRow : Bool → ℕ → List (List ℕ) → ℕ → Type 0
IsFormRow plain top words literal = (words ≡ literal_words literal) × IsOfForm plain top literal

-- the words are this and-line
abbrev pub IsAndRow : ℕ → List (List ℕ) → AndLine → Type 0
IsAndRow top words a = (words ≡ and_words a) × IsAnd top a

-- the words of these numbers
pub record IsHeaderOf (top inputs outputs ands : List ℕ) (h : Header) : Type 0 where
  pub top_is : IsNumberUpTo limit top h.top
  pub inputs_is : IsNumberUpTo limit inputs h.inputs
  pub outputs_is : IsNumberUpTo limit outputs h.outputs
  pub ands_is : IsNumberUpTo limit ands h.ands

-- the words are a header of these numbers
pub record IsHeader (words : List (List ℕ)) (h : Header) : Type 0 where
  pub text : words ≡ codes "aag" ∷ decimal h.top ∷ decimal h.inputs ∷ codes "0" ∷ decimal h.outputs ∷ decimal h.ands ∷ []
  pub top_small : h.top ≤ limit
  pub inputs_small : h.inputs ≤ limit
  pub outputs_small : h.outputs ≤ limit
  pub ands_small : h.ands ≤ limit

-- the word is a number below the count
pub record IsPlaceBelow (count : ℕ) (word : List ℕ) (place : ℕ) : Type 0 where
  pub number_is : IsNumberUpTo limit word place
  pub below : place < count

-- the word is that of the port, where there are so many inputs and outputs
pub record IsPortWord (inputs outputs : ℕ) (word : List ℕ) (port : ℕ) : Type 0 where
  pub text : word ≡ port_word inputs port
  pub below : port < inputs + outputs

-- the words are this symbol
abbrev pub IsSymbolRow : ℕ → ℕ → List (List ℕ) → Symbol → Type 0
IsSymbolRow inputs outputs words s = (words ≡ symbol_words inputs s) × IsSymbol (inputs + outputs) s

-- the lines have the words of these, each of which has the property
pub record AreRows {X : Type 0} (row : X → List (List ℕ)) (P : X → Type 0) (rows : List (List ℕ)) (xs : List X) : Type 0 where
  pub words : words_in rows ≡ map row xs
  pub all : All P xs

-- the first lines, so many of them, have the words of these; the rest is behind them
pub record IsSection {X : Type 0} (row : X → List (List ℕ)) (P : X → Type 0) (rows : List (List ℕ)) (count : ℕ) (xs : List X) (rest : List (List ℕ)) : Type 0 where
  pub front : List (List ℕ)
  pub cut : rows ≡ front ++ rest
  pub are : AreRows row P front xs
  pub number : length xs ≡ count

-- the lines are these symbols, and no port has two
pub record AreSymbols (inputs outputs : ℕ) (rows : List (List ℕ)) (symbols : List Symbol) : Type 0 where
  pub are : AreRows (symbol_words inputs) (IsSymbol (inputs + outputs)) rows symbols
  pub once : AllPairs (λ s t. s.port ≢ t.port) symbols

-- so many lines stand before the end, or the comment
pub record IsBeforeEnd (rows : List (List ℕ)) (count : ℕ) : Type 0 where
  pub end : List (List ℕ)
  pub cut : rows ≡ take count rows ++ end
  pub ended : IsEnd end
  pub before : All (λ line. line ≡ codes "c" → ⊥) (take count rows)
  pub within : count ≤ length rows

-- the lines up to the end or to a comment are these symbols
pub record IsSymbolPart (inputs outputs : ℕ) (rows : List (List ℕ)) (symbols : List Symbol) : Type 0 where
  pub front : List (List ℕ)
  pub end : List (List ℕ)
  pub cut : rows ≡ front ++ end
  pub ended : IsEnd end
  pub are : AreSymbols inputs outputs front symbols

-- the lines are the parts of this file behind its header
pub record IsBody (h : Header) (rows : List (List ℕ)) (f : File) : Type 0 where
  pub top : f.top ≡ h.top
  pub behind_inputs : List (List ℕ)
  pub behind_outputs : List (List ℕ)
  pub behind_ands : List (List ℕ)
  pub inputs : IsSection literal_words (IsPlain h.top) rows h.inputs f.inputs behind_inputs
  pub outputs : IsSection literal_words (IsLiteral h.top) behind_inputs h.outputs f.outputs behind_outputs
  pub ands : IsSection and_words (IsAnd h.top) behind_outputs h.ands f.ands behind_ands
  pub symbols : IsSymbolPart h.inputs h.outputs behind_ands f.symbols

-- the lines are a header and the parts of this file
pub record AreLines (rows : List (List ℕ)) (f : File) : Type 0 where
  pub header : Header
  pub first : List ℕ
  pub rest : List (List ℕ)
  pub cut : rows ≡ first ∷ rest
  pub header_is : IsHeader (words_of first) header
  pub body : IsBody header rest f
