-- What the answers of a refuter say.
use Rattle.std.specs.Prelude.{◌≡◌, ◌≢◌, ℕ, ◌≤◌, Bool, List, [], length, All}
use Rattle.eco_trace.specs.declared.refuter.Verdict.{Verdict}
use Rattle.eco_trace.specs.declared.refuter.Verdict.TheVariants.{Sat, Unsat, Spent}
use Rattle.eco_trace.specs.Clauses.{Clauses, Satisfies, valuation_of}
use Rattle.eco_trace.specs.Resolution.{Proof, EndsEmpty}
use Rattle.eco_trace.specs.Freshness.{IsFresh}

-- the list has a truth value for each variable, and these satisfy the clauses
pub record IsModel (c : Clauses) (values : List Bool) : Type 0 where
  pub complete : c.vars ≤ length values
  pub satisfies : Satisfies (valuation_of values) c.clauses

-- a proof from these clauses that ends in the empty clause
pub record IsRefutation (c : Clauses) (p : Proof) : Type 0 where
  pub originals : p.originals ≡ c.clauses
  pub ends : EndsEmpty p

-- such a proof with at most this many learnt clauses, the empty one among them
pub record IsRefutedWithin (c : Clauses) (limit : ℕ) (p : Proof) : Type 0 where
  pub refutation : IsRefutation c p
  pub within : length p.learnt ≤ limit

-- a proof from these clauses with just this many learnt clauses, each of which was news, none of them empty
pub record IsSpent (c : Clauses) (limit : ℕ) (p : Proof) : Type 0 where
  pub originals : p.originals ≡ c.clauses
  pub fresh : IsFresh p
  pub count : length p.learnt ≡ limit
  pub unfinished : All (λ n. n.clause ≢ []) p.learnt

-- what a verdict on these clauses, found within this many learnt clauses, says
abbrev pub IsVerdict : Clauses → ℕ → Verdict → Type 0
IsVerdict c limit (Sat values) = IsModel c values
IsVerdict c limit (Unsat p) = IsRefutedWithin c limit p
IsVerdict c limit (Spent p) = IsSpent c limit p
