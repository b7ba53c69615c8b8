-- What the steps of an encoder add.
use Rattle.std.specs.Prelude.{◌≡◌, ◌⊎◌, ℕ, List, [], ◌∷◌, ◌++◌, Some, Contains}
use Rattle.std.specs.List.{AllZip}
use Rattle.eco_aig.specs.declared.edge.Edge.{Edge}
use Rattle.eco_aig.specs.declared.node.Node.{Node}
use Rattle.eco_aig.specs.Edges.{plain}
use Rattle.eco_aig.specs.Graph.{pair_at}
use Rattle.eco_trace.specs.declared.clause.Lit.{Lit}
use Rattle.eco_trace.specs.Clauses.{IsClauseOf}
use Rattle.eco_tseitin.specs.Encoding.{Encoding, literal_of, conjunction_clauses, clauses_at}

-- the variables and clauses from before are there, and maybe more
pub record IsFront (old new : Encoding) : Type 0 where
  pub more_nodes : List ℕ
  pub nodes : new.nodes ≡ old.nodes ++ more_nodes
  pub more_clauses : List (List Lit)
  pub clauses : new.clauses ≡ old.clauses ++ more_clauses

-- the node has a variable: it had one, or it was given the next
pub record IsNamed (old new : Encoding) (k : ℕ) : Type 0 where
  pub clauses : new.clauses ≡ old.clauses
  pub has : Contains new.nodes k
  pub cases : (new.nodes ≡ old.nodes) ⊎ (new.nodes ≡ old.nodes ++ k ∷ [])
  pub had : Contains old.nodes k → new.nodes ≡ old.nodes

-- clauses of these literals were added
pub record AddsClauses (old new : Encoding) (wanted : List (List Lit)) : Type 0 where
  pub nodes : new.nodes ≡ old.nodes
  pub made : List (List Lit)
  pub behind : new.clauses ≡ old.clauses ++ made
  pub are : AllZip IsClauseOf wanted made

-- the clauses of an and-node of two operands were added, and these have variables
pub record AddsConjunction (old new : Encoding) (k : ℕ) (a b : Edge) : Type 0 where
  pub more : List ℕ
  pub nodes : new.nodes ≡ old.nodes ++ more
  pub only : (j : ℕ) → Contains more j → (j ≡ a.node) ⊎ (j ≡ b.node)
  pub first : Contains new.nodes a.node
  pub second : Contains new.nodes b.node
  pub made : List (List Lit)
  pub behind : new.clauses ≡ old.clauses ++ made
  pub are : AllZip IsClauseOf (conjunction_clauses (literal_of new.nodes (plain k)) (literal_of new.nodes a) (literal_of new.nodes b)) made

-- j is an operand of and-node k
pub data IsOperand (graph : List Node) (k : ℕ) : ℕ → Type 0 where
  of_first : (a b : Edge) → pair_at graph k ≡ Some (a, b) → IsOperand graph k a.node
  of_second : (a b : Edge) → pair_at graph k ≡ Some (a, b) → IsOperand graph k b.node

-- the node's clauses were added, and its operands have variables
pub record AddsNode (graph : List Node) (old new : Encoding) (k : ℕ) : Type 0 where
  pub more : List ℕ
  pub nodes : new.nodes ≡ old.nodes ++ more
  pub only : (j : ℕ) → Contains more j → IsOperand graph k j
  pub operands : (j : ℕ) → IsOperand graph k j → Contains new.nodes j
  pub made : List (List Lit)
  pub behind : new.clauses ≡ old.clauses ++ made
  pub are : AllZip IsClauseOf (clauses_at graph new.nodes k) made
