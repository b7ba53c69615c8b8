-- Literals that are given, and those of the nets that are left.
use Rattle.std.specs.Prelude.{ℕ, ◌+◌, List, [], ◌∷◌, Option, Some, None, if◌then◌else◌}
use Rattle.eco_meaning.specs.Names.{has}
use Rattle.eco_trace.specs.declared.clause.Lit.{Lit}
use Rattle.eco_clauses.specs.Listing.{numbered}

-- the literal that the net of this name is given: none where the name isn't one of these
abbrev pub given_literal : (List ℕ → Lit) → List (List ℕ) → List ℕ → Option Lit
given_literal shared inputs name = if has inputs name then Some (shared name) else None

-- the given literals, and variables behind the first `used` ones where none is given
abbrev pub filled_literals : ℕ → List (Option Lit) → List Lit
filled_literals used [] = []
filled_literals used (Some l ∷ given) = l ∷ filled_literals used given
filled_literals used (None ∷ given) = numbered (used + 1) ∷ filled_literals (used + 1) given

-- in how many places none is given
abbrev pub open_places : List (Option Lit) → ℕ
open_places [] = 0
open_places (Some l ∷ given) = open_places given
open_places (None ∷ given) = 1 + open_places given
