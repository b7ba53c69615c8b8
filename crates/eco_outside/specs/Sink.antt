-- What a sink of printed bytes is to its callers, and what a put leaves.
use Rattle.std.specs.Prelude.{◌≡◌, ℕ, List, ◌++◌, take, Option, option_map}
use Rattle.eco_outside.specs.Store.{Rose}

-- what callers know of a sink: the bytes that it has taken, where it tells them, and how often a put has failed
pub record SinkView : Type 0 where
  pub written : Option (List ℕ)
  pub faults : ℕ

-- a sink that has taken that and that no put has failed on
abbrev pub fresh_sink : Option (List ℕ) → SinkView
fresh_sink told = record { written = told; faults = 0 }

-- what was written, with a piece behind it
abbrev pub append_piece : Option (List ℕ) → List ℕ → Option (List ℕ)
append_piece told piece = option_map (λ bytes. bytes ++ piece) told

-- a put that failed, and took a front part of the piece
pub record PutFails (before after : SinkView) (piece : List ℕ) : Type 0 where
  pub rose : Rose before.faults after.faults
  pub written : (count : ℕ) × (after.written ≡ append_piece before.written (take count piece))
