-- Variables and clauses of the nodes of a graph, and when an encoder has just those of the edges that it was given.
use Rattle.std.specs.Prelude.{◌≡◌, ◌≢◌, ◌↔◌, ℕ, ◌+◌, ◌<◌, not, nat_eq, List, [], ◌∷◌, ◌++◌, length, slice_get, map, All, AllPairs, Contains, IsPermutation, unwrap_or}
use Rattle.std.specs.List.{flat_map, position_or_len, AllZip}
use Rattle.std.specs.Option.{option_map}
use Rattle.eco_aig.specs.declared.edge.Edge.{Edge}
use Rattle.eco_aig.specs.declared.node.Node.{Node}
use Rattle.eco_aig.specs.declared.node.Node.TheVariants.{Zero, Input, And}
use Rattle.eco_aig.specs.Edges.{plain}
use Rattle.eco_aig.specs.Graph.{IsGraph}
use Rattle.eco_aig.specs.Reached.{IsReached}
use Rattle.eco_trace.specs.declared.clause.Lit.{Lit}
use Rattle.eco_trace.specs.declared.clause.Var.{Var}
use Rattle.eco_trace.specs.Clauses.{complement, IsClauseOf, IsVarWithin}

-- what an encoder holds: the nodes that have a variable, in the order of the variables, and the clauses
pub record Encoding : Type 0 where
  pub nodes : List ℕ
  pub clauses : List (List Lit)

-- the variable of a node: variables are numbered from 1, in the order of their nodes
abbrev pub variable_of : List ℕ → ℕ → Var
variable_of nodes k = record { 0 = position_or_len (nat_eq k) nodes + 1 }

-- the literal that is true where the edge's bit is 1
abbrev pub literal_of : List ℕ → Edge → Lit
literal_of nodes e = record { var = variable_of nodes e.node; positive = not e.complemented }

-- the edge's node has a variable, and this is the edge's literal
pub record IsLiteralOf (nodes : List ℕ) (e : Edge) (l : Lit) : Type 0 where
  pub has : Contains nodes e.node
  pub is : l ≡ literal_of nodes e
  pub within : IsVarWithin (length nodes) l

-- the clauses that say that n is the conjunction of a and b: (not n, a), (not n, b), (n, not a, not b)
abbrev pub conjunction_clauses : Lit → Lit → Lit → List (List Lit)
conjunction_clauses n a b =
    (complement n ∷ a ∷ []) ∷ (complement n ∷ b ∷ []) ∷ (n ∷ complement a ∷ complement b ∷ []) ∷ []

-- the clauses of a node: the constant is 0, an and-node is the conjunction of its operands, an input is free
abbrev pub node_clauses : List ℕ → ℕ → Node → List (List Lit)
node_clauses nodes k Zero = (complement (literal_of nodes (plain k)) ∷ []) ∷ []
node_clauses nodes k (Input number) = []
node_clauses nodes k (And a b) =
    conjunction_clauses (literal_of nodes (plain k)) (literal_of nodes a) (literal_of nodes b)

-- the clauses of the graph's node of this number
abbrev pub clauses_at : List Node → List ℕ → ℕ → List (List Lit)
clauses_at graph nodes k = unwrap_or (option_map (node_clauses nodes k) (slice_get graph k)) []

-- the clause of one literal
abbrev pub unit : Lit → List Lit
unit l = l ∷ []

-- the encoder has the nodes that the edges `roots` reach, each once; and its clauses are, in some order, those of
-- these nodes and the asserted literals, each as often as it was asserted
pub record IsEncoding (graph : List Node) (roots : List Edge) (asserted : List Lit) (encoding : Encoding) : Type 0 where
  pub of_graph : IsGraph graph
  pub reached : (k : ℕ) → Contains encoding.nodes k ↔ IsReached graph roots k
  pub within : All (λ k. k < length graph) encoding.nodes
  pub once : AllPairs (λ i j. i ≢ j) encoding.nodes
  pub of_nodes : List (List Lit)
  pub are_of_nodes : AllZip IsClauseOf (flat_map (clauses_at graph encoding.nodes) encoding.nodes) of_nodes
  pub are_all : IsPermutation (of_nodes ++ map unit asserted) encoding.clauses

-- a graph at two times: the nodes of the first stand unchanged at the front of the second
pub record HasGrown (before now : List Node) : Type 0 where
  pub added : List Node
  pub behind : now ≡ before ++ added
