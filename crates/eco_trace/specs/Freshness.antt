-- Learnt clauses that tell unit propagation something new.
use Rattle.std.specs.Prelude.{◌≢◌, ◌⊎◌, List, All, Any, Contains}
use Rattle.eco_trace.specs.declared.clause.Lit.{Lit}
use Rattle.eco_trace.specs.Clauses.{complement}
use Rattle.eco_trace.specs.Resolution.{Proof, EachLearnt}

-- the literals know nothing of this literal's variable
abbrev pub Lacks : List Lit → Lit → Type 0
Lacks known l = All (λ k. k.var ≢ l.var) known

-- two literals of the clause, of different variables, of which the literals know nothing
pub record LacksTwo (known clause : List Lit) : Type 0 where
  pub one : Lit
  pub other : Lit
  pub one_in : Contains clause one
  pub other_in : Contains clause other
  pub different : one.var ≢ other.var
  pub one_lacking : Lacks known one
  pub other_lacking : Lacks known other

-- unit propagation from these literals gets nothing from the clause: one of its literals is known, or at least
-- two have variables that aren't
abbrev pub IsSatisfiedOrUnresolved : List Lit → List Lit → Type 0
IsSatisfiedOrUnresolved known clause = Any (Contains known) clause ⊎ LacksTwo known clause

-- the clause tells unit propagation something new: from the known literals, the clauses before it give nothing
-- more, and with it they give one of its literals
pub record IsNews (before : List (List Lit)) (clause : List Lit) : Type 0 where
  pub lit : Lit
  pub known : List Lit
  pub member : Contains clause lit
  pub one_sided : (l : Lit) → Contains known l → Contains known (complement l) → ⊥
  pub lacking : Lacks known lit
  pub refuted : (l : Lit) → Contains clause l → l ≢ lit → Contains known (complement l)
  pub unforced : All (IsSatisfiedOrUnresolved known) before

-- each learnt clause is news to the clauses that stand before it
abbrev pub IsFresh : Proof → Type 0
IsFresh p = EachLearnt (λ before n. IsNews before n.clause) p
