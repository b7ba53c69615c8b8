-- What the clauses of a question say of its nodes.
use Rattle.std.proofs.Common.{◌≡◌, ◌≢◌, ◌⊎◌, inl, inr, ℕ, ◌+◌, ◌-◌, Bool, true, false, not, List, [], ◌∷◌, ◌++◌, Option, Some, None, get_or, refl, sym, ◌∙◌, ap, subst, arith}
use Rattle.std.specs.List.{Contains}
use Rattle.std.proofs.lemmas.Bool.{true≢false, not-false}
use Rattle.std.proofs.lemmas.Option.{get_or_from_slice_get}
use Rattle.std.proofs.lemmas.List.Elements.{All-nil, All-cons, All-head, All-tail, All-append}
use Rattle.eco_lists.proofs.Members.{Contains_first, Contains_later, All-front, All-back}
use Rattle.eco_lists.proofs.Tests.{cases_bits, opposite, not_own}
use Rattle.eco_aig.specs.declared.node.Node.{Node}
use Rattle.eco_aig.specs.Edges.{plain}
use Rattle.eco_aig.specs.Graph.{IsValuation}
use Rattle.eco_trace.specs.declared.clause.Lit.{Lit}
use Rattle.eco_trace.specs.Clauses.{Clauses, Valuation, IsTrueIn, HoldsIn, Satisfies, IsUnsatisfiable, complement, truth}
use Rattle.eco_trace.proofs.ClauseLaws.{lit_cases}
use Rattle.eco_aig.proofs.Reaching.{at_root}
use Rattle.eco_tseitin.specs.Encoding.{Encoding, IsEncoding, variable_of, literal_of}
use Rattle.eco_tseitin.specs.Models.{HasNodeBits}
use Rattle.eco_tseitin.proofs.Places.{place_of, place_stands}
use Rattle.eco_trace.proofs.HoldingLaws.{clauses_hold, wanted_hold, one_true, head_true, equality_read, read_equality}
use Rattle.eco_tseitin.proofs.Modelled.{modelled_with}
use Rattle.eco_merge.specs.Alike.{IsAlike, bit_of, turned}
use Rattle.eco_merge.specs.Questions.{IsQuestion, edges_of, turned_literal, unlike_clauses}

-- the variables' values under a valuation of the graph
values_under : List ℕ → (ℕ → Bool) → Valuation
values_under vars w x = w (get_or vars (x - 1) 0)

value_there : (vars : List ℕ) (w : ℕ → Bool) (k : ℕ) → Contains vars k → values_under vars w (variable_of vars k).0 ≡ w k
unfolding values_under
value_there vars w k c =
    let place : (place_of vars k + 1) - 1 ≡ place_of vars k = omega arith in
    ap (λ i. w (get_or vars i 0)) place ∙ ap w (get_or_from_slice_get vars (place_of vars k) k 0 (place_stands vars k c))

has_bits : (graph : List Node) (vars : List ℕ) (w : ℕ → Bool) → IsValuation graph w → HasNodeBits graph vars (values_under vars w)
has_bits graph vars w valuation = record { bits = w; valuation = valuation; same = value_there vars w }

-- what a turned literal says of its node's bit
true_turned : (v : Valuation) (vars : List ℕ) (m : ℕ) (same : Bool) → IsTrueIn v (turned_literal same (literal_of vars (plain m))) → turned same (v (variable_of vars m).0) ≡ true
true_turned v vars m true e = e
true_turned v vars m false e = ap not e

false_turned : (v : Valuation) (vars : List ℕ) (m : ℕ) (same : Bool) → IsTrueIn v (complement (turned_literal same (literal_of vars (plain m)))) → turned same (v (variable_of vars m).0) ≡ false
false_turned v vars m true e = e
false_turned v vars m false e = ap not e

-- a turned literal is read as the node's bit, turned
turned_read : (v : Valuation) (vars : List ℕ) (m : ℕ) (same : Bool) → truth v (turned_literal same (literal_of vars (plain m))) ≡ turned same (v (variable_of vars m).0)
turned_read v vars m true = refl
turned_read v vars m false = refl

-- the bits of the question's nodes among the variables' values
bits_in : Valuation → List ℕ → Option ℕ → Bool
bits_in v vars None = false
bits_in v vars (Some m) = v (variable_of vars m).0

-- unlike bits satisfy the clauses, and alike ones don't
unlike_hold : (v : Valuation) (vars : List ℕ) (n : ℕ) (other : Option ℕ) (same : Bool) → v (variable_of vars n).0 ≢ turned same (bits_in v vars other) → Satisfies v (unlike_clauses vars n other same)
unfolding bits_in
unlike_hold v vars n None same ne =
    let l = turned_literal same (literal_of vars (plain n)) in
    All-cons (HoldsIn v) (l ∷ []) []
    (elim (lit_cases v l) [
      | inl is ↦ head_true v l [] is
      | inr is_not ↦ absurd (by same (false_turned v vars n same is_not) ne)
    ])
    (All-nil (HoldsIn v))
  where
    by : (same : Bool) → turned same (v (variable_of vars n).0) ≡ false → v (variable_of vars n).0 ≢ turned same false → ⊥
    by true e ne = ne e
    by false e ne = ne (not-false (v (variable_of vars n).0) e)
unlike_hold v vars n (Some m) same ne =
    let x = v (variable_of vars n).0 in
    let y = turned same (v (variable_of vars m).0) in
    let opposites : not x ≡ y = sym (opposite y x (λ e. ne (sym e))) in
    read_equality v (complement (literal_of vars (plain n))) (turned_literal same (literal_of vars (plain m))) (opposites ∙ sym (turned_read v vars m same))

alike_not : (v : Valuation) (vars : List ℕ) (n : ℕ) (other : Option ℕ) (same : Bool) → v (variable_of vars n).0 ≡ turned same (bits_in v vars other) → Satisfies v (unlike_clauses vars n other same) → ⊥
unfolding bits_in
alike_not v vars n None same e h =
    by same e (true_turned v vars n same (one_true v (turned_literal same (literal_of vars (plain n))) (All-head (HoldsIn v) (turned_literal same (literal_of vars (plain n)) ∷ []) [] h)))
  where
    by : (same : Bool) → v (variable_of vars n).0 ≡ turned same false → turned same (v (variable_of vars n).0) ≡ true → ⊥
    by true e is = true≢false (sym is ∙ e)
    by false e is = true≢false (sym is ∙ ap not e)
alike_not v vars n (Some m) same e h =
    let opposites : not (v (variable_of vars n).0) ≡ truth v (turned_literal same (literal_of vars (plain m))) =
    equality_read v (complement (literal_of vars (plain n))) (turned_literal same (literal_of vars (plain m))) h in
    not_own (v (variable_of vars n).0) (e ∙ sym (opposites ∙ turned_read v vars m same))

-- the question's nodes are those of its edges
node_in : (n : ℕ) (other : Option ℕ) → Contains (edges_of n other) (plain n)
node_in n None = Contains_first (plain n) []
node_in n (Some m) = Contains_first (plain n) (plain m ∷ [])

other_in : (n m : ℕ) → Contains (edges_of n (Some m)) (plain m)
other_in n m = Contains_later (plain n) (plain m) (plain m ∷ []) (Contains_first (plain m) [])

-- and so they have variables
pub has_node : (nodes : List Node) (n : ℕ) (other : Option ℕ) (encoding : Encoding) → IsEncoding nodes (edges_of n other) [] encoding → Contains encoding.nodes n
has_node nodes n other encoding is = (is.reached n).1 (at_root nodes (edges_of n other) (plain n) (node_in n other))

other_bit_in : (nodes : List Node) (n : ℕ) (other : Option ℕ) (encoding : Encoding) → IsEncoding nodes (edges_of n other) [] encoding → (v : Valuation) (bits : ℕ → Bool) → ((k : ℕ) → Contains encoding.nodes k → v (variable_of encoding.nodes k).0 ≡ bits k) → bits_in v encoding.nodes other ≡ bit_of bits other
unfolding bits_in
other_bit_in nodes n None encoding is v bits same = refl
other_bit_in nodes n (Some m) encoding is v bits same = same m ((is.reached m).1 (at_root nodes (edges_of n (Some m)) (plain m) (other_in n m)))

-- where the clauses have no model, the nodes are alike
pub question_refuted : (nodes : List Node) (n : ℕ) (other : Option ℕ) (same : Bool) (c : Clauses) → IsQuestion nodes n other same c → IsUnsatisfiable c.clauses → IsAlike nodes n other same
question_refuted nodes n other same c asks none = record { bits = λ w valuation. by w valuation (cases_bits (w n) (turned same (bit_of w other))) }
  where
    by : (w : ℕ → Bool) → IsValuation nodes w → (w n ≡ turned same (bit_of w other)) ⊎ (w n ≢ turned same (bit_of w other)) → w n ≡ turned same (bit_of w other)
    by w valuation (inl e) = e
    by w valuation (inr ne) =
        let vars = asks.encoding.nodes in
        let v = values_under vars w in
        let at_n : v (variable_of vars n).0 ≡ w n = value_there vars w n (has_node nodes n other asks.encoding asks.encoded) in
        let at_other : bits_in v vars other ≡ bit_of w other = other_bit_in nodes n other asks.encoding asks.encoded v w (value_there vars w) in
        let differ : v (variable_of vars n).0 ≢ turned same (bits_in v vars other) = λ e. ne (sym at_n ∙ e ∙ ap (turned same) at_other) in
        let encoded = (modelled_with nodes (edges_of n other) [] asks.encoding asks.encoded v).1 (has_bits nodes vars w valuation, All-nil (IsTrueIn v)) in
        let added = clauses_hold v (unlike_clauses vars n other same) asks.added asks.are_added (unlike_hold v vars n other same differ) in
        absurd (none v (subst (Satisfies v) (sym asks.behind) (All-append (HoldsIn v) asks.encoding.clauses asks.added encoded added)))

-- where they have a model, the nodes are not
pub question_modelled : (nodes : List Node) (n : ℕ) (other : Option ℕ) (same : Bool) (c : Clauses) (v : Valuation) → IsQuestion nodes n other same c → Satisfies v c.clauses → IsAlike nodes n other same → ⊥
question_modelled nodes n other same c v asks holds is =
    let vars = asks.encoding.nodes in
    let all : Satisfies v (asks.encoding.clauses ++ asks.added) = subst (Satisfies v) asks.behind holds in
    let has = ((modelled_with nodes (edges_of n other) [] asks.encoding asks.encoded v).0 (All-front (HoldsIn v) asks.encoding.clauses asks.added all)).0 in
    let wanted = wanted_hold v (unlike_clauses vars n other same) asks.added asks.are_added (All-back (HoldsIn v) asks.encoding.clauses asks.added all) in
    let at_n : v (variable_of vars n).0 ≡ has.bits n = has.same n (has_node nodes n other asks.encoding asks.encoded) in
    let at_other : bits_in v vars other ≡ bit_of has.bits other = other_bit_in nodes n other asks.encoding asks.encoded v has.bits has.same in
    alike_not v vars n other same (at_n ∙ is.bits has.bits has.valuation ∙ ap (turned same) (sym at_other)) wanted
