-- The variables of listed names.
use Rattle.std.specs.Prelude.{ℕ, ◌+◌, List, [], ◌∷◌}
use Rattle.std.specs.List.{position_or_len}
use Rattle.std.specs.Str.{bytes_eq}
use Rattle.eco_trace.specs.declared.clause.Lit.{Lit}
use Rattle.eco_clauses.specs.Listing.{numbered}

-- the literal of a name in a list that has the variables behind the first `used` ones, in order
abbrev pub listed_literal : ℕ → List (List ℕ) → List ℕ → Lit
listed_literal used list name = numbered (used + 1 + position_or_len (bytes_eq name) list)

-- the variables behind the first `used` ones, as many as the list has literals
abbrev pub new_literals : {X : Type 0} → ℕ → List X → List Lit
new_literals used [] = []
new_literals used (x ∷ xs) = numbered (used + 1) ∷ new_literals (used + 1) xs
