-- What edges reach.
use Rattle.std.proofs.Common.{◌≡◌, ℕ, ◌<◌, ◌⊎◌, inl, inr, List, [], ◌∷◌, Option, None, Some, length, refl, sym, ap, subst, arith}
use Rattle.std.specs.List.{Contains}
use Rattle.std.proofs.lemmas.Option.{slice_get_within}
use Rattle.eco_lists.proofs.Members.{Contains_cases, Contains_first, Contains_later, Contains_none}
use Rattle.eco_aig.specs.declared.edge.Edge.{Edge}
use Rattle.eco_aig.specs.declared.node.Node.{Node}
use Rattle.eco_aig.specs.Graph.{IsGraph, pair_at}
use Rattle.eco_aig.specs.Reached.{both_of, operands_at, Reaches, itself, next, IsReached}
use Rattle.eco_aig.proofs.Conjunctions.{pair_at_node}

-- an operand of a node is one of a pair
both_cases : (pair : Option (Edge × Edge)) (e : Edge) → Contains (both_of pair) e → (a : Edge) × (b : Edge) × (pair ≡ Some (a, b)) × ((a ≡ e) ⊎ (b ≡ e))
both_cases None e c = absurd (Contains_none e c)
both_cases (Some (a, b)) e c =
    elim (Contains_cases a e (b ∷ []) c) [
      | inl first ↦ (a, b, refl, inl first)
      | inr later ↦ elim (Contains_cases b e [] later) [
        | inl second ↦ (a, b, refl, inr second)
        | inr none ↦ absurd (Contains_none e none)
      ]
    ]

pub operand_cases : (nodes : List Node) (k : ℕ) (e : Edge) → Contains (operands_at nodes k) e → (a : Edge) × (b : Edge) × (pair_at nodes k ≡ Some (a, b)) × ((a ≡ e) ⊎ (b ≡ e))
operand_cases nodes k e c = both_cases (pair_at nodes k) e c

-- operands go to nodes before their own, and to none that is constant
pub operand_below : (nodes : List Node) (k : ℕ) (e : Edge) → IsGraph nodes → Contains (operands_at nodes k) e → (0 < e.node) × (e.node < k) × (k < length nodes)
operand_below nodes k e graph c =
    let found = operand_cases nodes k e c in
    let at = pair_at_node nodes k found.0 found.1 found.2 in
    let are = graph.operands k found.0 found.1 at in
    let within = slice_get_within nodes k _ at in
    elim found.3 [
      | inl same ↦ subst (λ (x : Edge). (0 < x.node) × (x.node < k) × (k < length nodes)) same (are.first, omega (arith, are.second, are.before), within)
      | inr same ↦ subst (λ (x : Edge). (0 < x.node) × (x.node < k) × (k < length nodes)) same (omega (arith, are.first, are.second), are.before, within)
    ]

-- the two operands of an and-node
operands_are : (nodes : List Node) (k : ℕ) (a b : Edge) → pair_at nodes k ≡ Some (a, b) → operands_at nodes k ≡ a ∷ b ∷ []
operands_are nodes k a b at = ap both_of at

-- an edge reaches its own node
pub at_root : (nodes : List Node) (roots : List Edge) (e : Edge) → Contains roots e → IsReached nodes roots e.node
at_root nodes roots e c = (e, c, itself)

-- and the operands of each and-node that it reaches
pub by_first : (nodes : List Node) (roots : List Edge) (k : ℕ) (a b : Edge) → pair_at nodes k ≡ Some (a, b) → IsReached nodes roots k → IsReached nodes roots a.node
by_first nodes roots k a b at from =
    (from.0, from.1, next k a from.2 (subst (λ (list : List Edge). Contains list a) (sym (operands_are nodes k a b at)) (Contains_first a (b ∷ []))))

pub by_second : (nodes : List Node) (roots : List Edge) (k : ℕ) (a b : Edge) → pair_at nodes k ≡ Some (a, b) → IsReached nodes roots k → IsReached nodes roots b.node
by_second nodes roots k a b at from =
    (from.0, from.1, next k b from.2 (subst (λ (list : List Edge). Contains list b) (sym (operands_are nodes k a b at)) (Contains_later a b (b ∷ []) (Contains_first b []))))

-- what holds of the roots' nodes, and with an and-node of its operands, holds of each node that is reached
reached_from : (nodes : List Node) (roots : List Edge) (P : ℕ → Type 0) → ((k : ℕ) (a b : Edge) → pair_at nodes k ≡ Some (a, b) → P k → P a.node × P b.node) → (start k : ℕ) → P start → Reaches nodes start k → P k
reached_from nodes roots P steps start k has itself = has
reached_from nodes roots P steps start k has (next j x before operand) =
    let found = operand_cases nodes j x operand in
    let both = steps j found.0 found.1 found.2 (reached_from nodes roots P steps start j has before) in
    elim found.3 [
      | inl same ↦ subst (λ (e : Edge). P e.node) same both.0
      | inr same ↦ subst (λ (e : Edge). P e.node) same both.1
    ]

pub all_reached_have : (nodes : List Node) (roots : List Edge) (P : ℕ → Type 0) → ((e : Edge) → Contains roots e → P e.node) → ((k : ℕ) (a b : Edge) → pair_at nodes k ≡ Some (a, b) → P k → P a.node × P b.node) → (k : ℕ) → IsReached nodes roots k → P k
all_reached_have nodes roots P starts steps k from = reached_from nodes roots P steps from.0.node k (starts from.0 from.1) from.2

-- what a node reaches reaches on
pub reaches_on : (nodes : List Node) (a b c : ℕ) → Reaches nodes a b → Reaches nodes b c → Reaches nodes a c
reaches_on nodes a b c first itself = first
reaches_on nodes a b c first (next k e before operand) = next k e (reaches_on nodes a b k first before) operand
