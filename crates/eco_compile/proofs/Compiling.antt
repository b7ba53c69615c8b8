-- Edges given gate by gate: under each valuation their bits are those that the gates give one by one.
use Rattle.std.proofs.Common.{◌≡◌, ◌≢◌, ℕ, suc, ◌+◌, ◌<◌, ◌≤◌, Bool, List, [], ◌∷◌, ◌++◌, Some, length, get_or, set, take, map, refl, sym, ◌∙◌, ap, subst, arith, length-set, inl, inr}
use Rattle.std.specs.List.{slice_get, All, AllPairs, sum_by}
use Rattle.std.proofs.lemmas.List.{take_more, map-set, get_or-map, get_or-set_other, length-map}
use Rattle.std.proofs.lemmas.List.Sums.{sum_by-set, sum_by-cons}
use Rattle.std.proofs.lemmas.Option.{slice_get_within, get_or_from_slice_get}
use Rattle.eco_gates.specs.GateValue.{GateValue}
use Rattle.eco_meaning.specs.Circuit.{NamedGate}
use Rattle.eco_netlist.specs.Netlists.{named_gate, named_term}
use Rattle.eco_gates.specs.Gates.{IsWithin, IsOnceDriven, IsUndriven}
use Rattle.eco_gates.specs.Evaluation.{gate_value, IsConsistentAt}
use Rattle.eco_gates.specs.Ordering.{IsOrder}
use Rattle.eco_lists.proofs.Places.{All_at, All_from_places, place_in_front, pair_at, pairs_from_places, slice_get-set_other, set_cases}
use Rattle.eco_gates.proofs.Running.{IsRunTo, run_more, run_all}
use Rattle.eco_aig.specs.declared.edge.Edge.{Edge}
use Rattle.eco_aig.specs.declared.node.Node.{Node}
use Rattle.eco_aig.specs.Edges.{value_of, bits_of}
use Rattle.eco_aig.specs.Graph.{IsValuation, IsEdge, HasValue, Grows}
use Rattle.eco_aig.proofs.Growing.{grows_join, grows_more, valuation_of_older}
use Rattle.eco_compile.specs.Compiled.{AreEdges}
use Rattle.eco_compile.specs.Joins.{gate_nodes}
use Rattle.eco_aig.proofs.Growing.{edges_stay}

-- the sum of the numbers at these places
abbrev pub sum_at : List ℕ → List ℕ → ℕ
sum_at [] sizes = 0
sum_at (i ∷ places) sizes = get_or sizes i 0 + sum_at places sizes

sum_at-push : (places : List ℕ) (i : ℕ) (sizes : List ℕ) → sum_at (places ++ i ∷ []) sizes ≡ sum_at places sizes + get_or sizes i 0
sum_at-push [] i sizes = omega arith
sum_at-push (j ∷ places) i sizes = omega (arith, sum_at-push places i sizes)

sum_at-set : (places : List ℕ) (i : ℕ) (sizes : List ℕ) → All (λ j. j ≢ i) places → sum_at places (set sizes i 0) ≡ sum_at places sizes
sum_at-set [] i sizes apart = refl
sum_at-set (j ∷ places) i sizes apart =
    let here : get_or (set sizes i 0) j 0 ≡ get_or sizes j 0 = get_or-set_other sizes i j 0 0 (apart 0 j (omega arith)) in
    let rest = sum_at-set places i sizes (λ k d lt. apart (suc k) d (omega arith)) in
    omega (arith, here, rest)

-- different places sum up to no more than all
sum_at-le : (places sizes : List ℕ) → AllPairs (λ i j. i ≢ j) places → All (λ i. i < length sizes) places → sum_at places sizes ≤ sum_by (λ n. n) sizes
sum_at-le [] sizes apart within = omega arith
sum_at-le (i ∷ places) sizes apart within =
    let less : List ℕ = set sizes i 0 in
    let same = sum_at-set places i sizes (λ k d lt e. apart 0 (suc k) d (omega arith) (omega arith) (sym e)) in
    let total = sum_by-set (λ n. n) sizes i 0 0 (within 0 i (omega arith)) in
    let rest = sum_at-le places less (λ a b d lt end. apart (suc a) (suc b) d (omega arith) (omega arith)) (λ k d lt. subst (λ (n : ℕ). get_or places k d < n) (sym (length-set sizes i 0)) (within (suc k) d (omega arith))) in
    omega (arith, same, total, rest)

sum_by-map : {X Y : Type 0} (f : Y → ℕ) (h : X → Y) (xs : List X) → sum_by f (map h xs) ≡ sum_by (λ x. f (h x)) xs
sum_by-map f h [] = refl
sum_by-map f h (x ∷ xs) =
    sum_by-cons f (h x) (map h xs) ∙ ap (λ n. f (h x) + n) (sum_by-map f h xs) ∙ sym (sum_by-cons (λ x. f (h x)) x xs)

-- how many nodes each gate may take
abbrev pub size_of : GateValue → ℕ
size_of g = gate_nodes g.kind (length g.ins)

abbrev pub sizes_of : List GateValue → List ℕ
sizes_of gates = map size_of gates

-- one more gate of the order
sum_at_more : (gates : List GateValue) (order : List ℕ) (k i : ℕ) (g : GateValue) → k < length order → slice_get order k ≡ Some i → slice_get gates i ≡ Some g → sum_at (take (k + 1) order) (sizes_of gates) ≡ sum_at (take k order) (sizes_of gates) + size_of g
sum_at_more gates order k i g lt at_k gate_i =
    let here : get_or order k 0 ≡ i = get_or_from_slice_get order k i 0 at_k in
    let size : get_or (sizes_of gates) i 0 ≡ size_of g = get_or-map size_of gates i g 0 (slice_get_within gates i g gate_i) ∙ ap size_of (get_or_from_slice_get gates i g g gate_i) in
    ap (λ list. sum_at list (sizes_of gates)) (take_more order k 0 lt) ∙ sum_at-push (take k order) (get_or order k 0) (sizes_of gates) ∙ ap (λ n. sum_at (take k order) (sizes_of gates) + n) (ap (λ n. get_or (sizes_of gates) n 0) here ∙ size)

-- the gates of a front part of the order take no more nodes than all gates
sum_at_all : (gates : List GateValue) (order : List ℕ) (k : ℕ) → IsOrder gates order → sum_at (take k order) (sizes_of gates) ≤ sum_by size_of gates
sum_at_all gates order k is_order =
    let count : length (sizes_of gates) ≡ length gates = length-map gates size_of in
    let le = sum_at-le (take k order) (sizes_of gates) (pairs_from_places (λ i j. i ≢ j) (take k order) (λ a b i j lt at_a at_b.
    pair_at (λ i j. i ≢ j) order a b i j is_order.once lt (place_in_front k order a i at_a).1 (place_in_front k order b j at_b).1)) (All_from_places (λ i. i < length (sizes_of gates)) (take k order) (λ a i at_a.
    subst (λ (n : ℕ). i < n) (sym count) (All_at (λ i. i < length gates) order a i is_order.numbers (place_in_front k order a i at_a).1))) in
    omega (arith, le, sum_by-map (λ (n : ℕ). n) size_of gates)

-- the first k gates of the order have their edges
pub record IsCompiledTo (gates : List GateValue) (order : List ℕ) (old_nodes nodes : List Node) (old edges : List Edge) (k : ℕ) : Type 0 where
  pub grows : Grows old_nodes nodes (sum_at (take k order) (sizes_of gates))
  pub len : length edges ≡ length old
  pub are : AreEdges nodes edges
  pub runs : (w : ℕ → Bool) → IsValuation nodes w → IsRunTo gates order (bits_of w old) k (bits_of w edges)
  pub kept : (net : ℕ) → IsUndriven gates net → slice_get edges net ≡ slice_get old net

-- one more gate
pub compiled_more : (gates : List GateValue) (order : List ℕ) (old_nodes nodes new : List Node) (old edges : List Edge) (k i : ℕ) (g : GateValue) (e : Edge) → IsWithin (length old) gates → IsOnceDriven gates → IsOrder gates order → k < length order → slice_get order k ≡ Some i → slice_get gates i ≡ Some g → IsCompiledTo gates order old_nodes nodes old edges k → Grows nodes new (size_of g) → HasValue new e (λ w. gate_value (bits_of w edges) g) → IsCompiledTo gates order old_nodes new old (set edges g.out.0 e) (k + 1)
compiled_more gates order old_nodes nodes new old edges k i g e within once is_order lt at_k gate_i is grows has = record {
  grows =
      let sum = sum_at_more gates order k i g lt at_k gate_i in
      subst (Grows old_nodes new) (sym sum) (grows_join old_nodes nodes new (sum_at (take k order) (sizes_of gates)) (size_of g) is.grows grows);
  len = length-set edges g.out.0 e ∙ is.len;
  are = All_from_places (IsEdge new) (set edges g.out.0 e) (λ j x at. elim (set_cases edges g.out.0 e j x at) [
    | inl here ↦ subst (IsEdge new) (sym here.1) has.within
    | inr other ↦ All_at (IsEdge new) edges j x (edges_stay nodes new (size_of g) edges grows is.are) other.1
  ]);
  runs = λ w valuation.
      let older : IsValuation nodes w = valuation_of_older nodes new (size_of g) w grows valuation in
      let bits_within : IsWithin (length (bits_of w old)) gates = subst (λ (n : ℕ). IsWithin n gates) (sym (length-map old (value_of w))) within in
      let more = run_more gates order (bits_of w old) (bits_of w edges) k i g bits_within once is_order at_k gate_i (is.runs w older) in
      subst (IsRunTo gates order (bits_of w old) (k + 1)) (ap (set (bits_of w edges) g.out.0) (sym (has.value w valuation)) ∙ sym (map-set (value_of w) edges g.out.0 e)) more;
  kept = λ net free. slice_get-set_other edges g.out.0 net e (λ same. All_at (λ (g : GateValue). g.out.0 ≢ net) gates i g free gate_i (sym same)) ∙ is.kept net free;
}

-- all gates
pub compiled_consistent : (gates : List GateValue) (order : List ℕ) (old_nodes nodes : List Node) (old edges : List Edge) (k : ℕ) → IsOrder gates order → length order ≤ k → IsCompiledTo gates order old_nodes nodes old edges k → (w : ℕ → Bool) → IsValuation nodes w → IsConsistentAt gates (bits_of w edges)
compiled_consistent gates order old_nodes nodes old edges k is_order le is w valuation =
    run_all gates order (bits_of w old) (bits_of w edges) k is_order le (is.runs w valuation)

-- the nodes that were added
pub compiled_grows : (gates : List GateValue) (order : List ℕ) (old_nodes nodes : List Node) (old edges : List Edge) (k : ℕ) → IsOrder gates order → length order ≤ k → IsCompiledTo gates order old_nodes nodes old edges k → Grows old_nodes nodes (sum_by size_of gates)
compiled_grows gates order old_nodes nodes old edges k is_order le is =
    let all = sum_at_all gates order k is_order in
    grows_more old_nodes nodes (sum_at (take k order) (sizes_of gates)) (sum_by size_of gates) (omega (arith, all)) is.grows

-- and the nodes that were added when memory was out behind the first k gates
pub compiled_stops : (gates : List GateValue) (order : List ℕ) (old_nodes nodes new : List Node) (old edges : List Edge) (k i : ℕ) (g : GateValue) → IsOrder gates order → k < length order → slice_get order k ≡ Some i → slice_get gates i ≡ Some g → IsCompiledTo gates order old_nodes nodes old edges k → Grows nodes new (size_of g) → Grows old_nodes new (sum_by size_of gates)
compiled_stops gates order old_nodes nodes new old edges k i g is_order lt at_k gate_i is grows =
    let sum = sum_at_more gates order k i g lt at_k gate_i in
    let all = sum_at_all gates order (k + 1) is_order in
    grows_more old_nodes new (sum_at (take k order) (sizes_of gates) + size_of g) (sum_by size_of gates) (omega (arith, sum, all)) (grows_join old_nodes nodes new (sum_at (take k order) (sizes_of gates)) (size_of g) is.grows grows)

-- the gates by their names take as many nodes
pub named_sizes : (list : List (List ℕ)) (gates : List GateValue) → sum_by size_of gates ≡ sum_by (λ g. gate_nodes g.kind (length g.terms)) (map (named_gate list) gates)
named_sizes list [] = refl
named_sizes list (g ∷ gates) =
    let named : NamedGate → ℕ = λ g. gate_nodes g.kind (length g.terms) in
    let here : length (map (named_term list) g.ins) ≡ length g.ins = length-map g.ins (named_term list) in
    sum_by-cons size_of g gates
    ∙ ap (λ n. size_of g + n) (named_sizes list gates)
    ∙ ap (λ n. gate_nodes g.kind n + sum_by named (map (named_gate list) gates)) (sym here)
    ∙ sym (sum_by-cons named (named_gate list g) (map (named_gate list) gates))
