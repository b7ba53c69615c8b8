-- How the clauses of a text are read, piece by piece.
use Rattle.std.specs.Prelude.{◌≡◌, ◌↔◌, ℕ, ◌≤◌, List, [], ◌∷◌, ◌++◌, length, Option, Some, None, codes, decimal}
use Rattle.std.specs.List.{flat_map}
use Rattle.eco_trace.specs.declared.clause.Lit.{Lit}
use Rattle.eco_trace.specs.Clauses.{Clauses, with_clause}
use Rattle.eco_prooftext.specs.declared.error.CnfError.{CnfError}
use Rattle.eco_prooftext.specs.declared.error.CnfError.TheVariants.{CnfSyntax, OutOfMemory}
use Rattle.eco_prooftext.specs.declared.reader.Body.{Body}
use Rattle.eco_lists.specs.Lines.{cut_at_feeds}
use Rattle.eco_prooftext.specs.CnfFile.{Piece, pieces_of, IsLiteral, IsNext, Falls, AreLines}

-- from what is read on, these pieces give the clauses
pub record Continues (body : Body) (pieces : List Piece) (c : Clauses) : Type 0 where
  pub vars_same : c.vars ≡ body.cnf.vars
  pub count_same : length c.clauses ≡ body.count
  pub more : List (List Lit)
  pub clauses_all : c.clauses ≡ body.cnf.clauses ++ more
  pub falls : Falls body.cnf.vars body.lits.items pieces more

-- what the lines give from here on: before the header, and behind it
abbrev pub Follows : Option Body → List (List ℕ) → Clauses → Type 0
Follows None lines c = AreLines lines c
Follows (Some body) lines c = Continues body (flat_map pieces_of lines) c

-- reading these items leads from one state to the other: both have the same outcomes
abbrev pub Leads : {S X : Type 0} → (S → List X → Clauses → Type 0) → S → List X → S → Type 0
Leads {S} {X} P old items new = (rest : List X) (c : Clauses) → P old (items ++ rest) c ↔ P new rest c

-- with these items there is no outcome
abbrev pub IsStuck : {S X : Type 0} → (S → List X → Clauses → Type 0) → S → List X → Type 0
IsStuck {S} {X} P old items = (rest : List X) (c : Clauses) → P old (items ++ rest) c → ⊥

-- one clause more, and none open
pub record Closes (old new : Body) : Type 0 where
  pub clause : List Lit
  pub next : IsNext old.cnf.vars old.lits.items clause
  pub cnf_more : new.cnf ≡ with_clause old.cnf clause
  pub lits_none : new.lits.items ≡ []
  pub count_kept : new.count ≡ old.count

-- one literal more
pub record Opens (word : List ℕ) (old new : Body) : Type 0 where
  pub lit : Lit
  pub is : IsLiteral old.cnf.vars word lit
  pub cnf_kept : new.cnf ≡ old.cnf
  pub lits_more : new.lits.items ≡ old.lits.items ++ lit ∷ []
  pub count_kept : new.count ≡ old.count

-- the digits are the number of a variable from 1 to `vars`
pub record IsVariable (vars : ℕ) (digits : List ℕ) (n : ℕ) : Type 0 where
  pub text : digits ≡ decimal n
  pub first : 1 ≤ n
  pub last : n ≤ vars
  pub limit : n ≤ 9223372036854775807

-- these words are a header's
pub record Heads (words : List (List ℕ)) (vars count : ℕ) : Type 0 where
  pub same : words ≡ codes "p" ∷ codes "cnf" ∷ decimal vars ∷ decimal count ∷ []
  pub vars_limit : vars ≤ 9223372036854775807
  pub count_limit : count ≤ 9223372036854775807

-- behind the header, before the first piece
pub record Begins (words : List (List ℕ)) (body : Body) : Type 0 where
  pub heads : Heads words body.cnf.vars body.count
  pub clauses_none : body.cnf.clauses ≡ []
  pub lits_none : body.lits.items ≡ []

-- the only outcome
abbrev pub IsOnly : (Clauses → Type 0) → Clauses → Type 0
IsOnly P cnf = P cnf × ((c : Clauses) → P c → c ≡ cnf)

-- the lines are refused for this: they are no text of clauses; a want of memory tells nothing of them
abbrev pub AreRefused : List (List ℕ) → CnfError → Type 0
AreRefused lines (CnfSyntax n) = (c : Clauses) → AreLines lines c → ⊥
AreRefused lines OutOfMemory = Unit {0}

-- the same of a text
abbrev pub IsRefused : List ℕ → CnfError → Type 0
IsRefused bytes e = AreRefused (cut_at_feeds bytes) e
