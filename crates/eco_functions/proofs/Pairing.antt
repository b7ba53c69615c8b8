-- Variables beside the edges to a graph's inputs, and what stands between two parts of clauses.
use Rattle.std.proofs.Common.{◌≡◌, ◌≢◌, ℕ, Bool, true, false, List, Some, map, sym, ◌∙◌, ap, subst, arith}
use Rattle.std.specs.Prelude.{option_map}
use Rattle.std.specs.List.{slice_get, All, AllPairs, Contains}
use Rattle.std.proofs.lemmas.Option.{same_Some, slice_get_within, slice_get-map}
use Rattle.eco_lists.proofs.Members.{map-Contains, map-map}
use Rattle.eco_lists.proofs.Places.{Contains_at, All_from_places, place_of, pair_at, pairs_from_places}
use Rattle.eco_trace.specs.declared.clause.Var.{Var}
use Rattle.eco_trace.specs.Clauses.{Valuation}
use Rattle.eco_trace.specs.Split.{Split, IsModelOf}
use Rattle.eco_aig.specs.declared.edge.Edge.{Edge}
use Rattle.eco_aig.specs.declared.node.Node.{Node}
use Rattle.eco_aig.specs.Edges.{plain, value_of}
use Rattle.eco_aig.specs.Graph.{IsGraph, IsEdge, Grows, inputs_of}
use Rattle.eco_aig.proofs.Inputs.{listed_input}
use Rattle.eco_itp.specs.Between.{IsCovered, Follows, IsBetween}
use Rattle.eco_tseitin.specs.Reading.{read_vars}
use Rattle.eco_tseitin.specs.Sides.{IsApart}
use Rattle.eco_functions.specs.Functions.{IsInterpolant}

-- the variables, and the edges to the inputs, in order
pub record ArePairs (shared : List Var) (nodes : List Node) (pairs : List (Var × Edge)) : Type 0 where
  pub variables : map (λ p. p.0) pairs ≡ shared
  pub edges : map (λ p. p.1) pairs ≡ map plain (inputs_of nodes)

-- a slice of such pairs
pub pairs_read : (shared : List Var) (nodes : List Node) (pairs slice : List (Var × Edge)) → slice ≡ pairs → map (λ p. p.0) pairs ≡ shared → map (λ p. p.1) pairs ≡ map plain (inputs_of nodes) → ArePairs shared nodes slice
pairs_read shared nodes pairs slice same variables edges = record {
  variables = ap (map (λ (p : Var × Edge). p.0)) same ∙ variables;
  edges = ap (map (λ (p : Var × Edge). p.1)) same ∙ edges;
}

-- what stands at a place of an image
pub map_at : {X Y : Type 0} (f : X → Y) (xs : List X) (k : ℕ) (x : X) → slice_get xs k ≡ Some x → slice_get (map f xs) k ≡ Some (f x)
map_at f xs k x at = slice_get-map f xs k ∙ ap (option_map f) at

-- no variable twice
pub pairs_distinct : (shared : List Var) (nodes : List Node) (pairs : List (Var × Edge)) → ArePairs shared nodes pairs → AllPairs (λ x y. x ≢ y) shared → AllPairs (λ p q. p.0 ≢ q.0) pairs
pairs_distinct shared nodes pairs are distinct =
    let all : AllPairs (λ x y. x ≢ y) (map (λ (p : Var × Edge). p.0) pairs) = subst (λ (list : List Var). AllPairs (λ x y. x ≢ y) list) (sym are.variables) distinct in
    pairs_from_places (λ (p q : Var × Edge). p.0 ≢ q.0) pairs (λ i j p q lt at_i at_j.
    pair_at (λ (x y : Var). x ≢ y) (map (λ (r : Var × Edge). r.0) pairs) i j p.0 q.0 all lt (map_at (λ (r : Var × Edge). r.0) pairs i p at_i) (map_at (λ (r : Var × Edge). r.0) pairs j q at_j))

-- each variable that occurs in both parts has an edge
pub pairs_cover : (split : Split) (shared : List Var) (nodes : List Node) (pairs : List (Var × Edge)) → ArePairs shared nodes pairs → IsApart split shared → IsCovered split pairs
pairs_cover split shared nodes pairs are apart = λ x both.
    let listed : Contains (map (λ (p : Var × Edge). p.0) pairs) x = subst (λ (list : List Var). Contains list x) (sym are.variables) (apart x both) in
    let found = map-Contains (λ (p : Var × Edge). p.0) pairs x listed in
    (found.0.1, subst (λ (y : Var). Contains pairs (y, found.0.1)) found.2 found.1)

-- the edges are those of the graph
pub pairs_within : (shared : List Var) (nodes : List Node) (pairs : List (Var × Edge)) → IsGraph nodes → ArePairs shared nodes pairs → All (λ p. IsEdge nodes p.1) pairs
pairs_within shared nodes pairs graph are = All_from_places (λ (p : Var × Edge). IsEdge nodes p.1) pairs (λ k p at.
    let image : slice_get (map plain (inputs_of nodes)) k ≡ Some p.1 = ap (λ (list : List Edge). slice_get list k) (sym are.edges) ∙ map_at (λ (q : Var × Edge). q.1) pairs k p at in
    let found = map-Contains plain (inputs_of nodes) p.1 (Contains_at (map plain (inputs_of nodes)) k p.1 image) in
    let node : found.0 ≡ p.1.node = ap (λ (e : Edge). e.node) found.2 in
    omega (arith, node, slice_get_within nodes found.0 _ (listed_input nodes found.0 graph found.1)))

-- where the variables have the bits of the inputs, each has the value of its edge
pub pairs_follow : (split : Split) (shared : List Var) (nodes : List Node) (pairs : List (Var × Edge)) (u : ℕ → Bool) (v : Valuation) → ArePairs shared nodes pairs → read_vars v shared ≡ map u (inputs_of nodes) → Follows split pairs u v
pairs_follow split shared nodes pairs u v are reads = λ x e both c.
    let bit : Var × Edge → Bool = λ p. v p.0.0 in
    let value : Var × Edge → Bool = λ p. value_of u p.1 in
    let left : map bit pairs ≡ read_vars v shared = sym (map-map (λ (p : Var × Edge). p.0) (λ (y : Var). v y.0) pairs) ∙ ap (read_vars v) are.variables in
    let right : map u (inputs_of nodes) ≡ map value pairs = sym (map-map plain (value_of u) (inputs_of nodes)) ∙ ap (map (value_of u)) (sym are.edges) ∙ map-map (λ (p : Var × Edge). p.1) (value_of u) pairs in
    let at = place_of pairs (x, e) c in
    same_Some (v x.0) (value_of u e) (sym (map_at bit pairs at.0 (x, e) at.1) ∙ ap (λ (list : List Bool). slice_get list at.0) (left ∙ reads ∙ right) ∙ map_at value pairs at.0 (x, e) at.1)

-- an interpolant over these pairs stands between the parts
pub pairs_between : (split : Split) (shared : List Var) (old new : List Node) (most : ℕ) (pairs : List (Var × Edge)) (e : Edge) → ArePairs shared old pairs → Grows old new most → IsBetween split pairs new e → IsInterpolant split shared new e
pairs_between split shared old new most pairs e are grows between = λ part u v valuation model reads.
    let follows : Follows split pairs u v = pairs_follow split shared old pairs u v are (reads ∙ ap (map u) grows.inputs) in
    elim part as (λ b. IsModelOf split b v → value_of u e ≡ b) [
      | true ↦ λ held. between.above u v valuation follows held
      | false ↦ λ held. between.below u v valuation follows held
    ] model
