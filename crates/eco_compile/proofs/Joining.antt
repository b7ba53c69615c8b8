-- Bits joined one by one, and the edges of joined terms.
use Rattle.std.proofs.Common.{◌≡◌, ℕ, ◌+◌, ◌*◌, ◌<◌, ◌≤◌, Bool, true, false, not, ◌&&◌, ◌||◌, List, [], ◌∷◌, ◌++◌, length, get_or, take, map, refl, sym, ◌∙◌, ap, subst, arith}
use Rattle.std.specs.List.{list_all, list_any}
use Rattle.std.proofs.lemmas.List.{take_more, take_all, map-append}
use Rattle.std.proofs.lemmas.List.Folds.{list_all-append, list_any-append}
use Rattle.std.proofs.Math.Bool.{and-true, or-false}
use Rattle.eco_meaning.specs.Gates.{is_odd}
use Rattle.eco_lists.proofs.Odd.{odd_push}
use Rattle.eco_gates.specs.declared.gate.Term.{Term}
use Rattle.eco_gates.specs.Evaluation.{term_value}
use Rattle.eco_aig.specs.declared.edge.Edge.{Edge}
use Rattle.eco_aig.specs.declared.node.Node.{Node}
use Rattle.eco_lists.specs.Bits.{exactly_one}
use Rattle.eco_aig.specs.Edges.{value_of, bits_of}
use Rattle.eco_aig.specs.Graph.{IsEdge, HasValue, Grows}
use Rattle.eco_aig.proofs.Growing.{grows_none, grows_join, grows_more, valuation_of_older}
use Rattle.eco_compile.specs.declared.join.Join.{Join}
use Rattle.eco_compile.specs.declared.join.Join.TheVariants as join
use Rattle.eco_compile.specs.Joins.{joined, joined_two, join_nodes}

-- one more bit
joined_push : (way : Join) (bits : List Bool) (b : Bool) → joined way (bits ++ b ∷ []) ≡ joined_two way (joined way bits) b
joined_push join.All bits b = list_all-append (λ bit. bit) bits (b ∷ []) ∙ ap (λ x. list_all (λ bit. bit) bits && x) (and-true b)
joined_push join.Any bits b = list_any-append (λ bit. bit) bits (b ∷ []) ∙ ap (λ x. list_any (λ bit. bit) bits || x) (or-false b)
joined_push join.Odd bits b = odd_push bits b

-- one bit alone
joined_one : (way : Join) (b : Bool) → joined way (b ∷ []) ≡ b
joined_one way b = joined_push way [] b ∙ by way b
  where
    by : (way : Join) (b : Bool) → joined_two way (joined way []) b ≡ b
    by join.All b = refl
    by join.Any b = refl
    by join.Odd b = refl

-- the nodes of one edge more
nodes_more : (way : Join) (k : ℕ) → join_nodes way * k + join_nodes way ≡ join_nodes way * (k + 1)
nodes_more join.All k = omega arith
nodes_more join.Any k = omega arith
nodes_more join.Odd k = omega arith

nodes_within : (way : Join) (k n : ℕ) → k < n → join_nodes way * k + join_nodes way ≤ join_nodes way * n
nodes_within join.All k n lt = omega arith
nodes_within join.Any k n lt = omega arith
nodes_within join.Odd k n lt = omega arith

nodes_front : (way : Join) (k n : ℕ) → k ≤ n → join_nodes way * k ≤ join_nodes way * n
nodes_front join.All k n le = omega arith
nodes_front join.Any k n le = omega arith
nodes_front join.Odd k n le = omega arith

-- an edge and the first k terms are joined to the edge e
pub record IsJoinedTo (way : Join) (first : Edge) (rest : List Term) (edges : List Edge) (old nodes : List Node) (k : ℕ) (e : Edge) : Type 0 where
  pub grows : Grows old nodes (join_nodes way * k)
  pub value : HasValue nodes e (λ w. joined way (value_of w first ∷ map (term_value (bits_of w edges)) (take k rest)))

-- no term yet
pub joined_none : (way : Join) (first : Edge) (rest : List Term) (edges : List Edge) (nodes : List Node) → IsEdge nodes first → IsJoinedTo way first rest edges nodes nodes 0 first
joined_none way first rest edges nodes within = record {
  grows = grows_none nodes (join_nodes way * 0);
  value = record { within = within; value = λ w valuation. sym (joined_one way (value_of w first)) };
}

-- one more term
pub joined_more : (way : Join) (first : Edge) (rest : List Term) (edges : List Edge) (old nodes new : List Node) (k : ℕ) (d : Term) (e t more : Edge) → k < length rest → IsJoinedTo way first rest edges old nodes k e → HasValue nodes t (λ w. term_value (bits_of w edges) (get_or rest k d)) → Grows nodes new (join_nodes way) → HasValue new more (λ w. joined_two way (value_of w e) (value_of w t)) → IsJoinedTo way first rest edges old new (k + 1) more
joined_more way first rest edges old nodes new k d e t more lt is has_t grows has = record {
  grows = subst (Grows old new) (nodes_more way k) (grows_join old nodes new (join_nodes way * k) (join_nodes way) is.grows grows);
  value = record {
    within = has.within;
    value = λ w valuation.
        let value = term_value (bits_of w edges) in
        let older = valuation_of_older nodes new (join_nodes way) w grows valuation in
        has.value w valuation
        ∙ ap (λ x. joined_two way x (value_of w t)) (is.value.value w older)
        ∙ ap (λ x. joined_two way (joined way (value_of w first ∷ map value (take k rest))) x) (has_t.value w older)
        ∙ sym (joined_push way (value_of w first ∷ map value (take k rest)) (value (get_or rest k d)))
        ∙ ap (λ (bits : List Bool). joined way (value_of w first ∷ bits)) (sym (ap (map value) (take_more rest k d lt) ∙ map-append value (take k rest) (get_or rest k d ∷ [])));
  };
}

-- the nodes where memory was out behind the first k terms
pub joined_stops : (way : Join) (first : Edge) (rest : List Term) (edges : List Edge) (old nodes new : List Node) (k : ℕ) (e : Edge) → k < length rest → IsJoinedTo way first rest edges old nodes k e → Grows nodes new (join_nodes way) → Grows old new (join_nodes way * length rest)
joined_stops way first rest edges old nodes new k e lt is grows =
    grows_more old new (join_nodes way * k + join_nodes way) (join_nodes way * length rest) (nodes_within way k (length rest) lt) (grows_join old nodes new (join_nodes way * k) (join_nodes way) is.grows grows)

-- all terms
pub joined_value : (way : Join) (first : Edge) (rest : List Term) (edges : List Edge) (old nodes : List Node) (k : ℕ) (e : Edge) → length rest ≤ k → IsJoinedTo way first rest edges old nodes k e → HasValue nodes e (λ w. joined way (value_of w first ∷ map (term_value (bits_of w edges)) rest))
joined_value way first rest edges old nodes k e le is =
    subst (λ (list : List Term). HasValue nodes e (λ w. joined way (value_of w first ∷ map (term_value (bits_of w edges)) list))) (take_all k rest le) is.value

pub joined_grows : (way : Join) (first : Edge) (rest : List Term) (edges : List Edge) (old nodes : List Node) (k : ℕ) (e : Edge) → k ≤ length rest → IsJoinedTo way first rest edges old nodes k e → Grows old nodes (join_nodes way * length rest)
joined_grows way first rest edges old nodes k e le is =
    grows_more old nodes (join_nodes way * k) (join_nodes way * length rest) (nodes_front way k (length rest) le) is.grows
