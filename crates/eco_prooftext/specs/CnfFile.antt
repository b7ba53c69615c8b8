-- The texts of clauses, as they are read: DIMACS CNF.
use Rattle.std.specs.Prelude.{◌≡◌, ◌⊎◌, ℕ, ◌≤◌, Bool, true, false, not, ◌||◌, ◌==◌, List, [], ◌∷◌, ◌++◌, length, map, filter, All, codes, decimal, if◌then◌else◌}
use Rattle.std.specs.List.{flat_map, slice_split}
use Rattle.eco_lists.specs.Lines.{cut_at_feeds}
use Rattle.eco_trace.specs.declared.clause.Lit.{Lit}
use Rattle.eco_trace.specs.Clauses.{Clauses, IsClauseOf, IsVarWithin}
use Rattle.eco_prooftext.specs.Texts.{lit_text}

-- a blank, a tab or a carriage return parts the words of a line
abbrev pub is_blank : ℕ → Bool
is_blank b = b == 32 || b == 9 || b == 13

-- the words of a line: what is parted, without what is empty
abbrev pub words_of : List ℕ → List (List ℕ)
words_of line = filter (λ word. not (length word == 0)) (slice_split is_blank line)

-- a line that begins with `c` is a comment
abbrev pub is_comment : List ℕ → Bool
is_comment [] = false
is_comment (b ∷ more) = b == 99

-- what stands behind the header: comments and words
pub data Piece : Type 0 where
  Comment : Piece
  Word : List ℕ → Piece

-- a line as a comment or as its words
abbrev pub pieces_of : List ℕ → List Piece
pieces_of line = if is_comment line then Comment ∷ [] else map Word (words_of line)

-- the word is this literal: its variable is from 1 to `vars`, and no larger than any number may be
pub record IsLiteral (vars : ℕ) (word : List ℕ) (lit : Lit) : Type 0 where
  pub text : word ≡ lit_text lit
  pub within : IsVarWithin vars lit
  pub limit : lit.var.0 ≤ 9223372036854775807

-- the clause of the literals that are open, over the variables from 1 to `vars`
pub record IsNext (vars : ℕ) (lits clause : List Lit) : Type 0 where
  pub clause_of : IsClauseOf lits clause
  pub within : All (IsVarWithin vars) clause

-- The pieces fall into these clauses, where some literals of the first are read already: the word `0` ends a clause,
-- any other word is a literal of the clause that is open, a comment stands where none is, and none is open at the end.
abbrev pub Falls : ℕ → List Lit → List Piece → List (List Lit) → Type 0
Falls vars lits [] clauses = (lits ≡ []) × (clauses ≡ [])
Falls vars lits (Comment ∷ rest) clauses = (lits ≡ []) × Falls vars [] rest clauses
Falls vars lits (Word word ∷ rest) clauses =
    ((word ≡ codes "0") × ((clause : List Lit) × (more : List (List Lit))
    × (clauses ≡ clause ∷ more) × IsNext vars lits clause × Falls vars [] rest more))
    ⊎ ((lit : Lit) × IsLiteral vars word lit × Falls vars (lits ++ lit ∷ []) rest clauses)

-- the header `p cnf V C`
pub record IsHeader (line : List ℕ) (vars count : ℕ) : Type 0 where
  pub words : words_of line ≡ codes "p" ∷ codes "cnf" ∷ decimal vars ∷ decimal count ∷ []
  pub vars_limit : vars ≤ 9223372036854775807
  pub count_limit : count ≤ 9223372036854775807

-- behind the header: the pieces fall into as many clauses as it says
pub record AreClauses (vars count : ℕ) (lines : List (List ℕ)) (c : Clauses) : Type 0 where
  pub vars_same : c.vars ≡ vars
  pub count_same : length c.clauses ≡ count
  pub falls : Falls vars [] (flat_map pieces_of lines) c.clauses

-- a comment, or a line without a word
abbrev pub IsIdle : List ℕ → Type 0
IsIdle line = (is_comment line ≡ true) ⊎ ((is_comment line ≡ false) × (words_of line ≡ []))

-- the lines: idle ones, the header, and what it heads
abbrev pub AreLines : List (List ℕ) → Clauses → Type 0
AreLines [] c = ⊥
AreLines (line ∷ lines) c =
    (IsIdle line × AreLines lines c)
    ⊎ ((is_comment line ≡ false) × ((vars count : ℕ) × IsHeader line vars count × AreClauses vars count lines c))

-- the text of these clauses
abbrev pub IsCnfText : List ℕ → Clauses → Type 0
IsCnfText bytes c = AreLines (cut_at_feeds bytes) c
