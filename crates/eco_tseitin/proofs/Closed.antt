-- Nodes that have their operands among them.
use Rattle.std.proofs.Common.{◌≡◌, ◌≢◌, ℕ, ◌<◌, List, Some, length, sym, ap, ◌∙◌, arith}
use Rattle.std.specs.List.{slice_get, Contains, All, AllPairs}
use Rattle.std.specs.Option.{option_and_then}
use Rattle.eco_aig.proofs.Conjunctions.{pair_at_node}
use Rattle.eco_aig.specs.declared.edge.Edge.{Edge}
use Rattle.eco_aig.specs.declared.node.Node.{Node}
use Rattle.eco_aig.specs.declared.node.Node.TheVariants.{And}
use Rattle.eco_aig.specs.Graph.{IsGraph, pair_of, pair_at}
use Rattle.eco_trace.specs.declared.clause.Lit.{Lit}
use Rattle.eco_aig.specs.Reached.{IsReached}
use Rattle.eco_aig.proofs.Reaching.{at_root, by_first, by_second, all_reached_have}
use Rattle.eco_tseitin.specs.Encoding.{Encoding, IsEncoding}
use Rattle.eco_tseitin.specs.Steps.{IsOperand, of_first, of_second}

-- nodes of the graph, with the operands of each of them
pub record IsClosed (graph : List Node) (nodes : List ℕ) : Type 0 where
  pub of_graph : IsGraph graph
  pub within : All (λ k. k < length graph) nodes
  pub once : AllPairs (λ i j. i ≢ j) nodes
  pub operands : (k j : ℕ) → Contains nodes k → IsOperand graph k j → Contains nodes j

-- an edge that reaches a node reaches its operands
pub reaches_operand : (graph : List Node) (roots : List Edge) (k j : ℕ) → IsReached graph roots k → IsOperand graph k j → IsReached graph roots j
reaches_operand graph roots k _ reached (of_first a b pair) = by_first graph roots k a b pair reached
reaches_operand graph roots k _ reached (of_second a b pair) = by_second graph roots k a b pair reached

pub is_closed : (graph : List Node) (roots : List Edge) (asserted : List Lit) (e : Encoding) → IsEncoding graph roots asserted e → IsClosed graph e.nodes
is_closed graph roots asserted e is = record {
  of_graph = is.of_graph;
  within = is.within;
  once = is.once;
  operands = λ k j c operand. (is.reached j).1 (reaches_operand graph roots k j ((is.reached k).0 c) operand);
}

-- an operand stands before its node
pub operand_before : (graph : List Node) (k j : ℕ) → IsGraph graph → IsOperand graph k j → j < k
operand_before graph k _ is (of_first a b pair) =
    let places = is.operands k a b (pair_at_node graph k a b pair) in
    omega (arith, places.second, places.before)
operand_before graph k _ is (of_second a b pair) =
    let places = is.operands k a b (pair_at_node graph k a b pair) in
    places.before

-- the same operands at an equal node
pub same_operands : (graph other : List Node) (k j : ℕ) → slice_get graph k ≡ slice_get other k → IsOperand graph k j → IsOperand other k j
same_operands graph other k _ e (of_first a b pair) = of_first a b (ap (option_and_then pair_of) (sym e) ∙ pair)
same_operands graph other k _ e (of_second a b pair) = of_second a b (ap (option_and_then pair_of) (sym e) ∙ pair)

-- what is reached from some edges of a graph is reached from more edges of a larger graph
pub reaches_more : (graph other : List Node) (roots more : List Edge) → ((k : ℕ) (a b : Edge) → pair_at graph k ≡ Some (a, b) → pair_at other k ≡ Some (a, b)) → ((e : Edge) → Contains roots e → Contains more e) → (j : ℕ) → IsReached graph roots j → IsReached other more j
reaches_more graph other roots more pairs edges = all_reached_have graph roots (IsReached other more)
    (λ e c. at_root other more e (edges e c))
    (λ k a b pair reached. (by_first other more k a b (pairs k a b pair) reached, by_second other more k a b (pairs k a b pair) reached))

-- nodes that have the edges' nodes and the operands of each member have all that is reached
pub all_reached : (graph : List Node) (roots : List Edge) (nodes : List ℕ) → ((e : Edge) → Contains roots e → Contains nodes e.node) → ((k j : ℕ) → Contains nodes k → IsOperand graph k j → Contains nodes j) → (j : ℕ) → IsReached graph roots j → Contains nodes j
all_reached graph roots nodes starts steps = all_reached_have graph roots (Contains nodes) starts
    (λ k a b pair has. (steps k a.node has (of_first a b pair), steps k b.node has (of_second a b pair)))

-- the operands of the and-node at a place
pub pair_here : (graph : List Node) (k : ℕ) (a b : Edge) → slice_get graph k ≡ Some (And a b) → pair_at graph k ≡ Some (a, b)
pair_here graph k a b at = ap (option_and_then pair_of) at
