-- What is learnt from a clause that is wrong.
use Rattle.std.specs.Prelude.{◌≡◌, ◌≢◌, ℕ, ◌<◌, List, [], length, Contains}
use Rattle.eco_trace.specs.declared.clause.Lit.{Lit}
use Rattle.eco_trace.specs.Clauses.{complement}
use Rattle.eco_trace.specs.Freshness.{Lacks}
use Rattle.eco_trace.specs.Resolution.{Learnt, Proof, clauses_of, with_learnt}
use Rattle.eco_learn.specs.declared.lesson.Assertion.{Assertion}
use Rattle.eco_learn.specs.declared.lesson.Lesson.{Lesson}
use Rattle.eco_learn.specs.declared.lesson.Lesson.TheVariants.{Refuted, Asserted}
use Rattle.eco_learn.specs.Trails.{Known, lits_at}
use Rattle.eco_learn.specs.Reasons.{IsFalseBut}

-- for how many variables a learner has room
pub record Learning : Type 0 where
  pub vars : ℕ

-- the proof has learnt this clause
pub record Adds (old new : Proof) (clause : List Lit) : Type 0 where
  pub learnt : Learnt
  pub clause_is : learnt.clause ≡ clause
  pub added : new ≡ with_learnt old learnt

-- the clause, all of whose literals are false, forces the literal as soon as the trail is cut back to the level: its
-- other literals are false there, and nothing is known of the literal. At each lower level nothing is known of a second
-- one either.
pub record IsAsserting (k : Known) (clause : List Lit) (a : Assertion) : Type 0 where
  pub wrong : (x : Lit) → Contains clause x → Contains k.lits (complement x)
  pub member : Contains clause a.lit
  pub lower : a.level < length k.marks
  pub refuted : IsFalseBut (lits_at k a.level) clause a.lit
  pub lacking : Lacks (lits_at k a.level) a.lit
  pub other_in : Contains clause a.other
  pub different : (i : ℕ) → i < a.level → a.other.var ≢ a.lit.var
  pub other_lacking : (i : ℕ) → i < a.level → Lacks (lits_at k i) a.other

-- the proof has learnt, as its last node, a clause that forces a literal
pub record IsAssertion (old new : Proof) (k : Known) (a : Assertion) : Type 0 where
  pub clause : List Lit
  pub adds : Adds old new clause
  pub node : a.node.0 ≡ length (clauses_of old)
  pub asserting : IsAsserting k clause a

-- what the proof has learnt: the empty clause, or one that forces a literal
abbrev pub IsTaught : Proof → Proof → Known → Lesson → Type 0
IsTaught old new k Refuted = Adds old new []
IsTaught old new k (Asserted a) = IsAssertion old new k a
