-- The rounds of a search, in each of which it learns a clause or ends.
use Rattle.std.specs.Prelude.{◌≡◌, ◌≢◌, ℕ, ◌≤◌, List, [], length, All}
use Rattle.eco_trace.specs.declared.clause.Lit.{Lit}
use Rattle.eco_trace.specs.Clauses.{Clauses, Satisfies, valuation_of}
use Rattle.eco_trace.specs.Freshness.{IsFresh, IsNews}
use Rattle.eco_trace.specs.Resolution.{Proof, clauses_of}
use Rattle.eco_learn.specs.Trails.{Known}
use Rattle.eco_learn.specs.Lessons.{Adds}
use Rattle.eco_scan.specs.declared.rounds.Round.{Round}
use Rattle.eco_scan.specs.declared.rounds.Round.TheVariants.{Sat, Unsat, Learnt}
use Rattle.eco_scan.specs.Scanning.{IsReady}

-- the proof has learnt a clause that is news, and the trail fits all of them
pub record HasLearnt (old new : Proof) (k : Known) : Type 0 where
  pub clause : List Lit
  pub adds : Adds old new clause
  pub news : IsNews (clauses_of old) clause
  pub ready : IsReady (clauses_of new) k

-- the outcome of a round: a model of the clauses, the empty clause, or a clause that is news
abbrev pub IsRound : Proof → Proof → Known → Round → Type 0
IsRound old new k (Sat values) = (k.vars ≤ length values) × Satisfies (valuation_of values) (clauses_of old)
IsRound old new k Unsat = Adds old new []
IsRound old new k Learnt = HasLearnt old new k

-- a search over clauses after this many rounds, each of which learnt a clause
pub record IsSearching (c : Clauses) (p : Proof) (k : Known) (rounds : ℕ) : Type 0 where
  pub originals : p.originals ≡ c.clauses
  pub vars : k.vars ≡ c.vars
  pub ready : IsReady (clauses_of p) k
  pub fresh : IsFresh p
  pub unfinished : All (λ n. n.clause ≢ []) p.learnt
  pub count : length p.learnt ≡ rounds
