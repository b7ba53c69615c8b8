-- What one part of clauses says of a function over its shared variables.
use Rattle.std.specs.Prelude.{◌≡◌, ◌↔◌, ℕ, ◌^◌, ◌<◌, ◌≤◌, Bool, not, List, All, map}
use Rattle.eco_trace.specs.declared.clause.Var.{Var}
use Rattle.eco_trace.specs.Clauses.{Clauses, Valuation, AreFormed, Satisfies}
use Rattle.eco_trace.specs.Resolution.{Proof}
use Rattle.eco_trace.specs.Split.{Split, IsModelOf}
use Rattle.eco_trace.specs.Verdicts.{IsSpent}
use Rattle.eco_tseitin.specs.Reading.{read_vars}
use Rattle.eco_aig.specs.declared.edge.Edge.{Edge}
use Rattle.eco_aig.specs.declared.node.Node.{Node}
use Rattle.eco_aig.specs.Edges.{value_of}
use Rattle.eco_aig.specs.Graph.{IsValuation, inputs_of}
use Rattle.eco_accept.specs.declared.judge.Judgement.{Judgement}
use Rattle.eco_accept.specs.declared.judge.Judgement.TheVariants.{Accepted, Refused, Unknown}

-- the clauses of a part, the variables that it shares with the other, and its mark
pub record JudgeValue : Type 0 where
  pub clauses : Clauses
  pub shared : List Var
  pub part : Bool

-- the shared variables are among those of the clauses, of which there are fewer than 2 ^ 60
pub record IsJudge (judge : JudgeValue) : Type 0 where
  pub formed : AreFormed judge.clauses
  pub first : All (λ x. 1 ≤ x.0) judge.shared
  pub last : All (λ x. x.0 ≤ judge.clauses.vars) judge.shared
  pub few : judge.clauses.vars < 2 ^ 60

-- its clauses are satisfied just where those of the part are
pub record IsOfPart (split : Split) (part : Bool) (shared : List Var) (judge : JudgeValue) : Type 0 where
  pub models : (v : Valuation) → Satisfies v judge.clauses.clauses ↔ IsModelOf split part v
  pub same_shared : judge.shared ≡ shared
  pub same_part : judge.part ≡ part

-- in each model of the clauses, where the inputs of the graph have the bits of the shared variables, the edge has the mark
abbrev pub HasMark : JudgeValue → List Node → Edge → Type 0
HasMark judge nodes root =
    (u : ℕ → Bool) (v : Valuation) → IsValuation nodes u → Satisfies v judge.clauses.clauses →
    read_vars v judge.shared ≡ map u (inputs_of nodes) → value_of u root ≡ judge.part

-- a model of the clauses in which the shared variables have these bits, and a valuation of the graph in which its inputs have them,
-- where the edge hasn't the mark
pub record LacksMark (judge : JudgeValue) (nodes : List Node) (root : Edge) (bits : List Bool) : Type 0 where
  pub u : ℕ → Bool
  pub v : Valuation
  pub valuation : IsValuation nodes u
  pub model : Satisfies v judge.clauses.clauses
  pub shared : read_vars v judge.shared ≡ bits
  pub inputs : map u (inputs_of nodes) ≡ bits
  pub value : value_of u root ≡ not judge.part

-- clauses that have a model just where the edge lacks the mark somewhere, and a proof from them that has just so many learnt clauses,
-- each of them news and none empty
pub record IsUndecided (judge : JudgeValue) (nodes : List Node) (root : Edge) (limit : ℕ) : Type 0 where
  pub asked : Clauses
  pub proof : Proof
  pub lacks : (v : Valuation) → Satisfies v asked.clauses → (bits : List Bool) × LacksMark judge nodes root bits
  pub shows : (bits : List Bool) → LacksMark judge nodes root bits → (v : Valuation) × Satisfies v asked.clauses
  pub spent : IsSpent asked limit proof

-- what a judgement says
abbrev pub IsJudged : JudgeValue → List Node → Edge → ℕ → Judgement → Type 0
IsJudged judge nodes root limit Accepted = HasMark judge nodes root
IsJudged judge nodes root limit (Refused bits) = LacksMark judge nodes root bits.items
IsJudged judge nodes root limit Unknown = IsUndecided judge nodes root limit
