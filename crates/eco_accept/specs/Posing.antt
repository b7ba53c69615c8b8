-- How a judge asks: clauses behind those of its part, and what is found of them.
use Rattle.std.specs.Prelude.{◌≡◌, ◌↔◌, ℕ, ◌+◌, ◌^◌, ◌<◌, ◌≤◌, Bool, true, false, not, List, Some, length, slice_get, All, Contains}
use Rattle.eco_aig.specs.declared.edge.Edge.{Edge}
use Rattle.eco_aig.specs.declared.node.Node.{Node}
use Rattle.eco_aig.specs.Edges.{value_of}
use Rattle.eco_aig.specs.Graph.{inputs_of}
use Rattle.eco_trace.specs.declared.clause.Lit.{Lit}
use Rattle.eco_trace.specs.declared.clause.Var.{Var}
use Rattle.eco_trace.specs.Adding.{behind}
use Rattle.eco_trace.specs.Clauses.{Clauses, Valuation, AreFormed, IsUnsatisfiable, IsVarWithin, Satisfies, complement, truth}
use Rattle.eco_trace.specs.Resolution.{Proof}
use Rattle.eco_trace.specs.Verdicts.{IsSpent}
use Rattle.eco_tseitin.specs.Encoding.{variable_of, literal_of}
use Rattle.eco_tseitin.specs.Models.{HasNodeBits, AreModelled}
use Rattle.eco_tseitin.specs.Reading.{read_vars}
use Rattle.eco_accept.specs.declared.judge.Judgement.{Judgement}
use Rattle.eco_accept.specs.declared.judge.Judgement.TheVariants.{Accepted, Refused, Unknown}
use Rattle.eco_accept.specs.declared.posing.Function.{Function}
use Rattle.eco_accept.specs.declared.posing.Pair.{Pair}
use Rattle.eco_accept.specs.Judging.{JudgeValue}

-- the variable is one of those from 1 to the last
pub record IsVarUpTo (last : ℕ) (x : Var) : Type 0 where
  pub first : 1 ≤ x.0
  pub within : x.0 ≤ last

-- the models of the new clauses are those of the old ones of which this is true as well
abbrev pub HaveAlso : Clauses → Clauses → (Valuation → Type 0) → Type 0
HaveAlso old new also = (v : Valuation) → Satisfies v new.clauses ↔ (Satisfies v old.clauses × also v)

-- the variables of each pair are equal, where the second one's stands behind the first variables
abbrev pub AreEqual : ℕ → List Pair → Valuation → Type 0
AreEqual first pairs v = All (λ p. v p.shared.0 ≡ behind first v p.own.0) pairs

-- the variable of the part is one of the first ones, and the other one, behind these, is within the last
pub record IsPairWithin (first last : ℕ) (p : Pair) : Type 0 where
  pub shared : IsVarUpTo first p.shared
  pub own : 1 ≤ p.own.0
  pub within : p.own.0 + first ≤ last
  pub fits : p.own.0 + first < 2 ^ 64

-- before this place an input stands that has a variable, which is paired with the shared variable at the input's place
pub record IsPairBefore (inputs : List ℕ) (shared : List Var) (named : List ℕ) (end : ℕ) (p : Pair) : Type 0 where
  pub place : ℕ
  pub before : place < end
  pub input : ℕ
  pub input_at : slice_get inputs place ≡ Some input
  pub shared_at : slice_get shared place ≡ Some p.shared
  pub has : Contains named input
  pub own_is : p.own ≡ variable_of named input

-- the pairs are those of the inputs before this place
abbrev pub ArePairsBefore : List ℕ → List Var → List ℕ → ℕ → List Pair → Type 0
ArePairsBefore inputs shared named end pairs = (p : Pair) → Contains pairs p ↔ IsPairBefore inputs shared named end p

-- the function's clauses are those of the edge, whose models are valuations of the graph, and the pairs are those of the inputs
pub record IsFunction (nodes : List Node) (root : Edge) (shared : List Var) (function : Function) : Type 0 where
  pub formed : AreFormed function.cnf
  pub few : function.cnf.vars < 2 ^ 60
  pub named : List ℕ
  pub vars : function.cnf.vars ≡ length named
  pub own : List (List Lit)
  pub modelled : AreModelled nodes named own
  pub models : (v : Valuation) → Satisfies v function.cnf.clauses ↔ HasNodeBits nodes named v
  pub reaches : Contains named root.node
  pub root_is : function.root ≡ literal_of named root
  pub root_within : IsVarWithin (length named) function.root
  pub pairs : ArePairsBefore (inputs_of nodes) shared named (length (inputs_of nodes)) function.inputs.items

-- the function's variables fit behind the first ones
pub record FitsBehind (first : ℕ) (function : Function) : Type 0 where
  pub few : function.cnf.vars < 2 ^ 60
  pub root : IsVarWithin function.cnf.vars function.root
  pub pairs : All (IsPairWithin first (function.cnf.vars + first)) function.inputs.items

-- the function's clauses hold behind the first variables, its inputs have the bits of the part's variables, and its value isn't the mark
pub record IsBehind (first : ℕ) (function : Function) (part : Bool) (v : Valuation) : Type 0 where
  pub own : Satisfies (behind first v) function.cnf.clauses
  pub equal : AreEqual first function.inputs.items v
  pub value : truth (behind first v) function.root ≡ not part

-- the literal that is true where the other one's bit isn't the mark
abbrev pub against : Bool → Lit → Lit
against true l = complement l
against false l = l

-- the bits that the nodes have behind the first variables
abbrev pub bits_behind : ℕ → List ℕ → Valuation → ℕ → Bool
bits_behind first named v k = behind first v (variable_of named k).0

-- a model of the part, and behind it a valuation of the graph in which the inputs that have variables have the bits of the shared
-- variables, but the edge hasn't the mark
pub record Counters (judge : JudgeValue) (nodes : List Node) (root : Edge) (named : List ℕ) (v : Valuation) : Type 0 where
  pub model : Satisfies v judge.clauses.clauses
  pub bits : HasNodeBits nodes named (behind judge.clauses.vars v)
  pub inputs : (place k : ℕ) (x : Var) → slice_get (inputs_of nodes) place ≡ Some k → slice_get judge.shared place ≡ Some x
      → Contains named k → v x.0 ≡ bits_behind judge.clauses.vars named v k
  pub value : value_of (bits_behind judge.clauses.vars named v) root ≡ not judge.part

-- the clauses' models are just the counterexamples
pub record IsPosed (judge : JudgeValue) (nodes : List Node) (root : Edge) (c : Clauses) : Type 0 where
  pub named : List ℕ
  pub own : List (List Lit)
  pub modelled : AreModelled nodes named own
  pub reaches : Contains named root.node
  pub models : (v : Valuation) → Satisfies v c.clauses ↔ Counters judge nodes root named v

-- what is found of the clauses: they have no model, or one in which the shared variables have these bits, or as many clauses were
-- learnt as the limit allows
abbrev pub IsFound : Clauses → List Var → ℕ → Judgement → Type 0
IsFound c shared limit Accepted = IsUnsatisfiable c.clauses
IsFound c shared limit (Refused bits) = (v : Valuation) × Satisfies v c.clauses × (read_vars v shared ≡ bits.items)
IsFound c shared limit Unknown = (proof : Proof) × IsSpent c limit proof
