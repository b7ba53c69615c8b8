-- Steps with ids, and the proofs that they stand for.
use Rattle.std.specs.Prelude.{◌≡◌, ℕ, ◌-◌, ◌≤◌, List, map, All}
use Rattle.eco_trace.specs.declared.clause.Lit.{Lit}
use Rattle.eco_trace.specs.declared.node.NodeId.{NodeId}
use Rattle.eco_trace.specs.declared.node.Link.{Link}
use Rattle.eco_trace.specs.Resolution.{Proof, Gives, IsLegal, Learns, chain_of}

-- a step: the id of a clause, and pairs of a pivot and the id of another
pub record StepValue : Type 0 where
  pub start : ℕ
  pub links : List (ℕ × ℕ)

-- the node of an id: nodes count from 0, ids from 1
abbrev pub node_of : ℕ → NodeId
node_of id = record { 0 = id - 1 }

-- a pair of a step as a link
abbrev pub link_of : ℕ × ℕ → Link
link_of pair = record { pivot = record { 0 = pair.0 }; with = node_of pair.1 }

-- the ids of the step are at least 1
pub record HasIds (step : StepValue) : Type 0 where
  pub start : 1 ≤ step.start
  pub links : All (λ pair. 1 ≤ pair.1) step.links

-- the step gives this clause, from the clauses that stand before
pub record StepGives (before : List (List Lit)) (step : StepValue) (clause : List Lit) : Type 0 where
  pub ids : HasIds step
  pub gives : Gives before (node_of step.start) (map link_of step.links) clause

-- the step is legal after these clauses: it gives a clause
abbrev pub IsLegalStep : List (List Lit) → StepValue → Type 0
IsLegalStep before step = (clause : List Lit) × StepGives before step clause

-- the chain of a step
abbrev pub chain_of_step : StepValue → NodeId × List Link
chain_of_step step = (node_of step.start, map link_of step.links)

-- the legal proof from these clauses whose chains are those of the steps
pub record TakesSteps (clauses : List (List Lit)) (steps : List StepValue) (p : Proof) : Type 0 where
  pub originals : p.originals ≡ clauses
  pub legal : IsLegal p
  pub ids : All HasIds steps
  pub chains : map chain_of p.learnt ≡ map chain_of_step steps

-- the proof has learnt what the step gives
pub record LearnsStep (old : Proof) (step : StepValue) (new : Proof) : Type 0 where
  pub ids : HasIds step
  pub learns : Learns old new (node_of step.start) (map link_of step.links)
