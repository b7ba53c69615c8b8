-- Proofs as memory has room for them.
use Rattle.std.specs.Prelude.{◌≤◌, length}
use Rattle.eco_trace.specs.Resolution.{Proof, IsLegal, clauses_of}

-- a legal proof of at most 2 ^ 63 - 1 clauses
pub record IsStored (p : Proof) : Type 0 where
  pub legal : IsLegal p
  pub few : length (clauses_of p) ≤ 9223372036854775807
