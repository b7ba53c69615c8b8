-- Whether two nodes are alike, as clauses; and what is known of them where a search gave up.
use Rattle.std.specs.Prelude.{◌≡◌, ◌⊎◌, ℕ, Bool, true, false, List, [], ◌∷◌, ◌++◌, Option, Some, None, length, Contains}
use Rattle.std.specs.List.{AllZip}
use Rattle.eco_aig.specs.declared.edge.Edge.{Edge}
use Rattle.eco_aig.specs.declared.node.Node.{Node}
use Rattle.eco_aig.specs.Edges.{plain}
use Rattle.eco_trace.specs.declared.clause.Lit.{Lit}
use Rattle.eco_trace.specs.Adding.{equality}
use Rattle.eco_trace.specs.Clauses.{Clauses, IsClauseOf, complement}
use Rattle.eco_trace.specs.Resolution.{IsLegal}
use Rattle.eco_trace.specs.Verdicts.{IsSpent}
use Rattle.eco_tseitin.specs.Encoding.{Encoding, IsEncoding, literal_of}
use Rattle.eco_merge.specs.declared.loose.Loose.{Loose}
use Rattle.eco_merge.specs.Alike.{IsAlike}

-- the edges to the node and to the other one, if there is one
abbrev pub edges_of : ℕ → Option ℕ → List Edge
edges_of n None = plain n ∷ []
edges_of n (Some m) = plain n ∷ plain m ∷ []

-- the literal, or its complement where `same` is false
abbrev pub turned_literal : Bool → Lit → Lit
turned_literal true l = l
turned_literal false l = complement l

-- the clauses that say that node n isn't like the other one: the complement of n is equal to the other one, or to its
-- complement where `same` is false; without another one, that n isn't 0, or isn't 1
abbrev pub unlike_clauses : List ℕ → ℕ → Option ℕ → Bool → List (List Lit)
unlike_clauses nodes n None same = (turned_literal same (literal_of nodes (plain n)) ∷ []) ∷ []
unlike_clauses nodes n (Some m) same = equality (complement (literal_of nodes (plain n))) (turned_literal same (literal_of nodes (plain m)))

-- the clauses ask for a valuation under which n isn't like the other node: they are those of an encoding of the two nodes,
-- and behind them the clauses that say that n isn't like the other one
pub record IsQuestion (nodes : List Node) (n : ℕ) (other : Option ℕ) (same : Bool) (c : Clauses) : Type 0 where
  pub encoding : Encoding
  pub encoded : IsEncoding nodes (edges_of n other) [] encoding
  pub vars : c.vars ≡ length encoding.nodes
  pub added : List (List Lit)
  pub behind : c.clauses ≡ encoding.clauses ++ added
  pub are_added : AllZip IsClauseOf (unlike_clauses encoding.nodes n other same) added

-- the entry's clauses ask whether its nodes are unlike, and its trace is a legal and fresh proof from them with as many learnt
-- clauses as the limit allows, none of which is empty
pub record IsEntry (nodes : List Node) (limit : ℕ) (entry : Loose) : Type 0 where
  pub asks : IsQuestion nodes entry.node entry.other entry.same entry.cnf
  pub legal : IsLegal entry.trace
  pub spent : IsSpent entry.cnf limit entry.trace

-- an entry is about these nodes
pub record HasEntry (apart : List Loose) (n : ℕ) (other : Option ℕ) (same : Bool) : Type 0 where
  pub entry : Loose
  pub member : Contains apart entry
  pub node_is : entry.node ≡ n
  pub other_is : entry.other ≡ other
  pub same_is : entry.same ≡ same

-- where the nodes are alike, an entry says that this isn't known
abbrev pub IsCompared : List Node → List Loose → ℕ → Option ℕ → Bool → Type 0
IsCompared nodes apart n other same = IsAlike nodes n other same → HasEntry apart n other same

-- the same of two nodes, in either order
abbrev pub AreCompared : List Node → List Loose → ℕ → ℕ → Bool → Type 0
AreCompared nodes apart n m same =
    IsAlike nodes n (Some m) same → HasEntry apart n (Some m) same ⊎ HasEntry apart m (Some n) same
