-- What stays where a graph grows.
use Rattle.std.proofs.Common.{◌≡◌, inl, inr, ℕ, zero, suc, ◌+◌, ◌<◌, ◌≤◌, Bool, false, ◌&&◌, List, [], ◌∷◌, ◌++◌, Some, length, get_or, refl, sym, ◌∙◌, ap, subst, arith, length-append, append_assoc}
use Rattle.std.specs.List.{slice_get, AllZip, Contains, flat_map}
use Rattle.std.specs.Option.{option_map, unwrap_or, option_and_then}
use Rattle.std.proofs.lemmas.Bool.{cases_eq}
use Rattle.std.proofs.lemmas.Option.{same_Some, slice_get_within, get_or_from_slice_get, slice_get-get_or}
use Rattle.std.proofs.lemmas.List.Elements.{All-weaker, All-contains, All-contains_itself}
use Rattle.eco_lists.proofs.Places.{slice_get-front, slice_get-append_left}
use Rattle.eco_lists.specs.Bits.{bit_at}
use Rattle.eco_aig.specs.declared.edge.Edge.{Edge}
use Rattle.eco_aig.specs.declared.node.Node.{Node}
use Rattle.eco_aig.specs.declared.node.Node.TheVariants.{Zero, Input, And}
use Rattle.eco_aig.specs.Edges.{value_of}
use Rattle.eco_aig.specs.Graph.{FitsNode, IsValuation, IsGraph, Grows, IsConjunctionNode, AgreeAt, pair_of, pair_at, inputs_of, in_order}
use Rattle.eco_aig.proofs.Conjunctions.{pair_at_node, ordered_bit}
use Rattle.eco_aig.proofs.Filling.{bit_agree, one_valuation}
use Rattle.eco_aig.proofs.Inputs.{listed_input}
use Rattle.eco_trace.specs.Clauses.{IsClauseOf}
use Rattle.eco_aig.specs.Reached.{IsReached}
use Rattle.eco_aig.proofs.Reaching.{at_root, by_first, by_second, all_reached_have}
use Rattle.eco_tseitin.specs.Encoding.{Encoding, IsEncoding, HasGrown, node_clauses, clauses_at}
use Rattle.eco_tseitin.proofs.Closed.{reaches_more}
use Rattle.eco_tseitin.proofs.Clausal.{flat_agree}
use Rattle.eco_tseitin.proofs.Filling.{valuation_with}
use Rattle.eco_merge.specs.declared.loose.Loose.{Loose}
use Rattle.eco_merge.specs.Alike.{IsAlike, IsAndNode, bit_of, turned, other_of}
use Rattle.eco_merge.specs.Rows.{IsRow, grown}
use Rattle.eco_merge.specs.Questions.{IsEntry, edges_of}

-- a growth, however large
pub grown_of : (old new : List Node) (most : ℕ) → Grows old new most → HasGrown old new
grown_of old new most grows = record { added = grows.added; behind = grows.behind }

pub grown_join : (one two three : List Node) → HasGrown one two → HasGrown two three → HasGrown one three
grown_join one two three first second = record {
  added = first.added ++ second.added;
  behind = second.behind ∙ ap (λ list. list ++ second.added) first.behind ∙ append_assoc one first.added second.added;
}

module _ (before now : List Node) (is_grown : HasGrown before now) where
  pub longer : length before ≤ length now
  longer = omega (arith, ap length is_grown.behind, length-append before is_grown.added)

  -- older nodes stay
  front : (k : ℕ) → k < length before → slice_get now k ≡ slice_get before k
  front k lt = ap (λ list. slice_get list k) is_grown.behind ∙ slice_get-front before is_grown.added k lt

  stays : (k : ℕ) (node : Node) → slice_get before k ≡ Some node → slice_get now k ≡ Some node
  stays k node at = front k (slice_get_within before k node at) ∙ at

  pub pair_back : (k : ℕ) → k < length before → pair_at before k ≡ pair_at now k
  pair_back k lt = ap (option_and_then pair_of) (sym (front k lt))

  pub pair_on : (k : ℕ) (a b : Edge) → pair_at before k ≡ Some (a, b) → pair_at now k ≡ Some (a, b)
  pair_on k a b pair =
      sym (pair_back k (slice_get_within before k (And a b) (pair_at_node before k a b pair))) ∙ pair

  pub node_back : (k : ℕ) (node : Node) → k < length before → slice_get now k ≡ Some node → slice_get before k ≡ Some node
  node_back k node lt at = sym (front k lt) ∙ at

  pub and_back : (k : ℕ) → k < length before → IsAndNode now k → IsAndNode before k
  and_back k lt is = record { first = is.first; second = is.second; operands = pair_back k lt ∙ is.operands }

  -- what older edges reach stays, and no more is reached
  pub reached_back : (roots : List Edge) → IsGraph before → ((e : Edge) → Contains roots e → e.node < length before) → (k : ℕ) → IsReached now roots k → IsReached before roots k × (k < length before)
  reached_back roots graph within = all_reached_have now roots (λ k. IsReached before roots k × (k < length before))
      (λ e c. (at_root before roots e c, within e c))
      (λ k a b pair rest.
      let old : pair_at before k ≡ Some (a, b) = pair_back k rest.1 ∙ pair in
      let is = graph.operands k a b (pair_at_node before k a b old) in (
        (by_first before roots k a b old rest.0, omega (arith, is.second, is.before, rest.1)),
        (by_second before roots k a b old rest.0, omega (arith, is.before, rest.1)),
      ))

  -- a valuation goes on to the larger graph
  pub valuation_on : (w : ℕ → Bool) → IsGraph before → IsGraph now → IsValuation before w → (u : ℕ → Bool) × IsValuation now u × ((k : ℕ) → k < length before → w k ≡ u k)
  valuation_on w graph graph_now valuation =
      let larger = valuation_with now w graph_now in
      let older : IsValuation before larger.0 = record { fits = λ k node at. larger.1.fits k node (stays k node at) } in
      let agree : AgreeAt (inputs_of before) w larger.0 = λ k c. (let at = listed_input before k graph c in sym (larger.2 k k (stays k (Input k) at))) in
      (larger.0, larger.1, one_valuation before w larger.0 graph valuation older agree)

  -- nodes that are alike in the larger graph were so before
  pub alike_back : (n m : ℕ) (same : Bool) → IsGraph before → IsGraph now → n < length before → m < length before → IsAlike now n (other_of m) same → IsAlike before n (other_of m) same
  alike_back n m same graph graph_now n_in m_in is = record {
    bits = λ w valuation.
        let larger = valuation_on w graph graph_now valuation in
        larger.2 n n_in ∙ is.bits larger.0 larger.1 ∙ ap (turned same) (by m w larger.0 m_in larger.2);
  }
    where
      by : (m : ℕ) (w u : ℕ → Bool) → m < length before → ((k : ℕ) → k < length before → w k ≡ u k) → bit_of u (other_of m) ≡ bit_of w (other_of m)
      by zero w u lt agree = refl
      by (suc m) w u lt agree = sym (agree (suc m) lt)

  -- an encoding stays
  encoding_stays : (roots : List Edge) (e : Encoding) → IsGraph now → IsEncoding before roots [] e → IsEncoding now roots [] e
  encoding_stays roots e graph_now is =
      let nodes_in : (k : ℕ) → Contains e.nodes k → k < length before = λ k c. All-contains (λ j. j < length before) e.nodes k is.within c in
      let roots_in : (x : Edge) → Contains roots x → x.node < length before = λ x c. nodes_in x.node ((is.reached x.node).1 (at_root before roots x c)) in
      let agree : flat_map (clauses_at now e.nodes) e.nodes ≡ flat_map (clauses_at before e.nodes) e.nodes = flat_agree (clauses_at now e.nodes) (clauses_at before e.nodes) e.nodes (λ k c. ap (λ o. unwrap_or (option_map (node_clauses e.nodes k) o) []) (front k (nodes_in k c))) in
      record {
        of_graph = graph_now;
        reached = λ k. (
          λ c. reaches_more before now roots roots pair_on (λ x at. at) k ((is.reached k).0 c),
          λ r. (is.reached k).1 (reached_back roots is.of_graph roots_in k r).0,
        );
        within = All-weaker (Contains e.nodes) (λ k. k < length now) (λ k c. (let low = nodes_in k c in omega (arith, low, longer))) e.nodes (All-contains_itself e.nodes);
        once = is.once;
        of_nodes = is.of_nodes;
        are_of_nodes = subst (λ list. AllZip IsClauseOf list is.of_nodes) (sym agree) is.are_of_nodes;
        are_all = is.are_all;
      }

  pub entry_stays : (limit : ℕ) (entry : Loose) → IsGraph now → IsEntry before limit entry → IsEntry now limit entry
  entry_stays limit entry graph_now is = record {
    asks = record {
      encoding = is.asks.encoding;
      encoded = encoding_stays (edges_of entry.node entry.other) is.asks.encoding graph_now is.asks.encoded;
      vars = is.asks.vars;
      added = is.asks.added;
      behind = is.asks.behind;
      are_added = is.asks.are_added;
    };
    legal = is.legal;
    spent = is.spent;
  }

-- where one node may be added and the graph is longer, just one was
pub longer_by_one : (old new : List Node) → Grows old new 1 → length old < length new → length new ≡ length old + 1
longer_by_one old new grows more =
    omega (arith, grows.few, more, ap length grows.behind, length-append old grows.added)

-- the bits of a row stay where it grows
pub bit_front : (bits more : List Bool) (k : ℕ) → k < length bits → bit_at bits k ≡ bit_at (bits ++ more) k
bit_front bits more k lt =
    sym (get_or_from_slice_get (bits ++ more) k (get_or bits k false) false (slice_get-append_left bits more k (get_or bits k false) (slice_get-get_or bits k false lt)))

last_bit : (bits : List Bool) (bit : Bool) → bit_at (bits ++ bit ∷ []) (length bits) ≡ bit
last_bit [] bit = refl
last_bit (x ∷ bits) bit = last_bit bits bit

-- a row grows with its graph
pub row_grows : (old new : List Node) (a b e : Edge) (bits : List Bool) → IsGraph old → Grows old new 1 → length old < length new → IsConjunctionNode new a b e → e.node ≡ length old → a.node < length old → b.node < length old → IsRow old bits → IsRow new (grown a b bits)
row_grows old new a b e bits graph grows more is place a_in b_in row = record {
  count = length-append bits (bit ∷ []) ∙ omega (arith, row.count, long);
  valuation = record { fits = λ k node at. elim (cases_eq k (length old)) [ inl here ↦ at_last k node here at | inr other ↦ before k node (omega (arith, slice_get_within new k node at, long, other)) at ] };
}
  where
    bit : Bool
    bit = value_of (bit_at bits) a && value_of (bit_at bits) b

    more_bits : List Bool
    more_bits = grown a b bits

    long : length new ≡ length old + 1
    long = longer_by_one old new grows more

    agree : (k : ℕ) → k < length old → bit_at bits k ≡ bit_at more_bits k
    agree k lt = bit_front bits (bit ∷ []) k (omega (arith, lt, row.count))

    fits_still : (k : ℕ) (node : Node) → k < length old → slice_get old k ≡ Some node → FitsNode (bit_at bits) node (bit_at bits k) → FitsNode (bit_at more_bits) node (bit_at more_bits k)
    fits_still k Zero lt at fits = sym (agree k lt) ∙ fits
    fits_still k (Input number) lt at fits = tt
    fits_still k (And p q) lt at fits =
        let operands = graph.operands k p q at in
        sym (agree k lt) ∙ fits ∙ ap (λ x. x && value_of (bit_at bits) q) (bit_agree (bit_at bits) (bit_at more_bits) p (agree p.node (omega (arith, operands.second, operands.before, lt)))) ∙ ap (λ x. value_of (bit_at more_bits) p && x) (bit_agree (bit_at bits) (bit_at more_bits) q (agree q.node (omega (arith, operands.before, lt))))

    before : (k : ℕ) (node : Node) → k < length old → slice_get new k ≡ Some node → FitsNode (bit_at more_bits) node (bit_at more_bits k)
    before k node lt at =
        let older : slice_get old k ≡ Some node = node_back old new (grown_of old new 1 grows) k node lt at in
        fits_still k node lt older (row.valuation.fits k node older)

    at_last : (k : ℕ) (node : Node) → k ≡ length old → slice_get new k ≡ Some node → FitsNode (bit_at more_bits) node (bit_at more_bits k)
    at_last k node here at =
        let made : slice_get new k ≡ Some (And (in_order a b).0 (in_order a b).1) = ap (slice_get new) (here ∙ sym place) ∙ pair_at_node new e.node (in_order a b).0 (in_order a b).1 is.operands in
        let same : And (in_order a b).0 (in_order a b).1 ≡ node = same_Some (And (in_order a b).0 (in_order a b).1) node (sym made ∙ at) in
        let last : bit_at more_bits k ≡ bit = ap (bit_at more_bits) (here ∙ sym row.count) ∙ last_bit bits bit in
        subst (λ (n : Node). FitsNode (bit_at more_bits) n (bit_at more_bits k)) same (last ∙ ap (λ x. x && value_of (bit_at bits) b) (bit_agree (bit_at bits) (bit_at more_bits) a (agree a.node a_in)) ∙ ap (λ x. value_of (bit_at more_bits) a && x) (bit_agree (bit_at bits) (bit_at more_bits) b (agree b.node b_in)) ∙ sym (ordered_bit (bit_at more_bits) a b))
