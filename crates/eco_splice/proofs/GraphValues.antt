-- The function of the patch from a graph.
use Rattle.std.proofs.Common.{◌≡◌, ℕ, zero, suc, ◌<◌, inl, inr, Bool, true, false, not, ◌&&◌, eqb, cond, List, [], ◌∷◌, ◌++◌, Some, length, map, refl, sym, ◌∙◌, ap, subst, arith}
use Rattle.std.specs.List.{Contains, slice_get, list_all, zip}
use Rattle.std.specs.Option.{is_some, option_map}
use Rattle.std.proofs.lemmas.Bool.{eqb-true, eqb-false}
use Rattle.std.proofs.lemmas.Option.{none-some, same_Some, slice_get_within, slice_get-map}
use Rattle.std.proofs.lemmas.List.{length-map}
use Rattle.std.proofs.lemmas.List.Elements.{Contains-append_left, Contains-append_right, Contains-append_cases}
use Rattle.std.proofs.Math.Bool.{and-true}
use Rattle.std.proofs.Math.Nat.{pos_of_ne-zero}
use Rattle.eco_lists.proofs.Members.{Contains-map, map-Contains, map-map}
use Rattle.eco_lists.proofs.Places.{place_of, item_at, map_agree, Contains_at, same_by_places, slice_get-append_left}
use Rattle.eco_meaning.specs.declared.kind.Kind.TheVariants.{And, Buf, Not}
use Rattle.eco_meaning.specs.declared.name.Operand.TheVariants.{Zero, One, Named}
use Rattle.eco_meaning.specs.Gates.{apply}
use Rattle.eco_meaning.specs.Circuit as circuit
use Rattle.eco_meaning.specs.Circuit.{NamedGate, Values, IsConsistent}
use Rattle.eco_aig.specs.declared.edge.Edge.{Edge}
use Rattle.eco_aig.specs.declared.node.Node.{Node}
use Rattle.eco_aig.specs.Edges.{plain, value_of}
use Rattle.eco_aig.specs.Graph.{IsValuation, pair_at, inputs_of}
use Rattle.eco_aig.proofs.Conjunctions.{pair_at_node, constant_bit}
use Rattle.eco_aig.specs.Reached.{both_of, operands_at}
use Rattle.eco_splice.specs.GraphPatch.{netted, wires_from, nets_of, net_of, sources, edge_gate, root_term, root_kind, root_gate, graph_circuit}
use Rattle.eco_splice.proofs.OrderedEdges.{pair_found}
use Rattle.eco_splice.proofs.GraphNets.{net_is}
use Rattle.eco_splice.proofs.GraphShape.{AreGraphParts, nets_count}

-- what is known of the values: the nodes', the nets', and that they agree at the inputs
pub record AreValued (prefix : List ℕ) (nodes : List Node) (edges : List Edge) (targets base : List (List ℕ)) (roots : List Edge) (u : ℕ → Bool) (w : Values) : Type 0 where
  pub parts : AreGraphParts prefix nodes edges targets base roots
  pub valuation : IsValuation nodes u
  pub consistent : IsConsistent (graph_circuit prefix nodes edges targets base roots) w
  pub inputs : map w base ≡ map u (inputs_of nodes)

-- the gate of an edge computes the edge's bit
conjunction : (nodes : List Node) (u : ℕ → Bool) (k : ℕ) → IsValuation nodes u → is_some (pair_at nodes k) ≡ true → list_all (λ bit. bit) (map (value_of u) (operands_at nodes k)) ≡ u k
conjunction nodes u k valuation is =
    let pair = pair_found (pair_at nodes k) is in
    let a = pair.0 in
    let b = pair.1 in
    let operands : operands_at nodes k ≡ a ∷ b ∷ [] = ap both_of pair.2 in
    let bit = valuation.fits k _ (pair_at_node nodes k a b pair.2) in
    ap (λ l. list_all (λ bit. bit) (map (value_of u) l)) operands
    ∙ ap (λ x. value_of u a && x) (and-true (value_of u b))
    ∙ sym bit

gate_bit : (nodes : List Node) (u : ℕ → Bool) (e : Edge) → IsValuation nodes u → (e.complemented ≡ false → is_some (pair_at nodes e.node) ≡ true) → apply (cond e.complemented Not And) (map (value_of u) (sources nodes e)) ≡ value_of u e
gate_bit nodes u e valuation some =
    elim e.complemented as (λ b. e.complemented ≡ b → apply (cond b Not And) (map (value_of u) (cond b (plain e.node ∷ []) (operands_at nodes e.node))) ≡ cond b (not (u e.node)) (u e.node)) [
      | true ↦ λ is. refl
      | false ↦ λ is. conjunction nodes u e.node valuation (some is)
    ] refl

-- the net of an input has its bit
input_value : (prefix : List ℕ) (nodes : List Node) (edges : List Edge) (targets base : List (List ℕ)) (roots : List Edge) (u : ℕ → Bool) (w : Values) → AreValued prefix nodes edges targets base roots u w → (node : ℕ) → Contains (inputs_of nodes) node → w (net_of (netted nodes edges) (nets_of prefix base (length edges)) (plain node)) ≡ u node
input_value prefix nodes edges targets base roots u w are node c =
    let all = netted nodes edges in
    let nets = nets_of prefix base (length edges) in
    let at = place_of (inputs_of nodes) node c in
    let count = are.parts.inputs in
    let within = slice_get_within (inputs_of nodes) at.0 node at.1 in
    let name = item_at base at.0 (omega (arith, count, within)) in
    let edge : slice_get (map plain (inputs_of nodes)) at.0 ≡ Some (plain node) = slice_get-map plain (inputs_of nodes) at.0 ∙ ap (option_map plain) at.1 in
    let net = net_is all nets at.0 (plain node) are.parts.out.once (nets_count prefix nodes edges targets base roots are.parts) (slice_get-append_left (map plain (inputs_of nodes)) edges at.0 (plain node) edge) in
    let same : name.0 ≡ net_of all nets (plain node) = same_Some name.0 (net_of all nets (plain node)) (sym (slice_get-append_left base (wires_from prefix 1 (length edges)) at.0 name.0 name.1) ∙ net) in
    let left : slice_get (map w base) at.0 ≡ Some (w name.0) = slice_get-map w base at.0 ∙ ap (option_map w) name.1 in
    let right : slice_get (map u (inputs_of nodes)) at.0 ≡ Some (u node) = slice_get-map u (inputs_of nodes) at.0 ∙ ap (option_map u) at.1 in
    sym (ap w same) ∙ same_Some (w name.0) (u node) (sym left ∙ ap (λ l. slice_get l at.0) are.inputs ∙ right)

-- the net of an edge has its bit, where those of the edges before it have theirs
edge_value : (prefix : List ℕ) (nodes : List Node) (edges : List Edge) (targets base : List (List ℕ)) (roots : List Edge) (u : ℕ → Bool) (w : Values) → AreValued prefix nodes edges targets base roots u w → (e : Edge) → Contains edges e → ((x : Edge) → Contains (sources nodes e) x → w (net_of (netted nodes edges) (nets_of prefix base (length edges)) x) ≡ value_of u x) → w (net_of (netted nodes edges) (nets_of prefix base (length edges)) e) ≡ value_of u e
edge_value prefix nodes edges targets base roots u w are e c known =
    let all = netted nodes edges in
    let nets = nets_of prefix base (length edges) in
    let gate = Contains-append_left (map (edge_gate nodes all nets) edges) (map (λ p. root_gate all nets p.0 p.1) (zip targets roots)) _ (Contains-map (edge_gate nodes all nets) edges e c) in
    are.consistent (edge_gate nodes all nets e) gate
    ∙ ap (apply (cond e.complemented Not And))
    (map-map (λ (x : Edge). Named (net_of all nets x)) (circuit.value_of w) (sources nodes e)
    ∙ map_agree (λ (x : Edge). w (net_of all nets x)) (value_of u) (sources nodes e) (λ k x at. known x (Contains_at (sources nodes e) k x at)))
    ∙ gate_bit nodes u e are.valuation (are.parts.gates e c)

values_below : (prefix : List ℕ) (nodes : List Node) (edges : List Edge) (targets base : List (List ℕ)) (roots : List Edge) (u : ℕ → Bool) (w : Values) → AreValued prefix nodes edges targets base roots u w → (n i : ℕ) (e : Edge) → i < n → slice_get (netted nodes edges) i ≡ Some e → w (net_of (netted nodes edges) (nets_of prefix base (length edges)) e) ≡ value_of u e
values_below prefix nodes edges targets base roots u w are zero i e lt at = absurd (omega arith)
values_below prefix nodes edges targets base roots u w are (suc n) i e lt at =
    let all = netted nodes edges in
    let nets = nets_of prefix base (length edges) in
    elim (Contains-append_cases (map plain (inputs_of nodes)) edges e (Contains_at all i e at)) [
      | inl input ↦
          let found = map-Contains plain (inputs_of nodes) e input in
          subst (λ (x : Edge). w (net_of all nets x) ≡ value_of u x) found.2 (input_value prefix nodes edges targets base roots u w are found.0 found.1)
      | inr edge ↦
          edge_value prefix nodes edges targets base roots u w are e edge (λ x c.
          let before = are.parts.out.before i e x at c in
          values_below prefix nodes edges targets base roots u w are n before.0 x (let low = before.1 in omega arith) before.2)
    ]

pub net_value : (prefix : List ℕ) (nodes : List Node) (edges : List Edge) (targets base : List (List ℕ)) (roots : List Edge) (u : ℕ → Bool) (w : Values) → AreValued prefix nodes edges targets base roots u w → (e : Edge) → Contains (netted nodes edges) e → w (net_of (netted nodes edges) (nets_of prefix base (length edges)) e) ≡ value_of u e
net_value prefix nodes edges targets base roots u w are e c =
    let at = place_of (netted nodes edges) e c in
    values_below prefix nodes edges targets base roots u w are (suc at.0) at.0 e (omega arith) at.1

-- the gate of a target computes the root's bit
constant_bits : (w : Values) (sign bit : Bool) → bit ≡ false → apply (cond (sign && false) Not Buf) (circuit.value_of w (cond sign One Zero) ∷ []) ≡ cond sign (not bit) bit
constant_bits w true bit e = sym (ap not e)
constant_bits w false bit e = sym e

signed_bits : (sign bit net : Bool) → net ≡ bit → apply (cond (sign && true) Not Buf) (net ∷ []) ≡ cond sign (not bit) bit
signed_bits true bit net e = ap not e
signed_bits false bit net e = e

root_value : (prefix : List ℕ) (nodes : List Node) (edges : List Edge) (targets base : List (List ℕ)) (roots : List Edge) (u : ℕ → Bool) (w : Values) → AreValued prefix nodes edges targets base roots u w → (e : Edge) → Contains roots e → apply (root_kind e) (circuit.value_of w (root_term (netted nodes edges) (nets_of prefix base (length edges)) e) ∷ []) ≡ value_of u e
root_value prefix nodes edges targets base roots u w are e c =
    let net = net_of (netted nodes edges) (nets_of prefix base (length edges)) (plain e.node) in
    elim (eqb e.node 0) as (λ b. eqb e.node 0 ≡ b → apply (cond (e.complemented && not b) Not Buf) (circuit.value_of w (cond b (cond e.complemented One Zero) (Named net)) ∷ []) ≡ value_of u e) [
      | true ↦ λ is. constant_bits w e.complemented (u e.node) (ap u (eqb-true e.node 0 is) ∙ constant_bit nodes u are.parts.graph are.valuation)
      | false ↦ λ is.
          let has = are.parts.rooted e c (pos_of_ne-zero (eqb-false e.node 0 is)) in
          signed_bits e.complemented (u e.node) (w net) (net_value prefix nodes edges targets base roots u w are (plain e.node) has)
    ] refl

-- two lists side by side
pub zip_at : {A B : Type 0} (xs : List A) (ys : List B) (k : ℕ) (x : A) (y : B) → slice_get xs k ≡ Some x → slice_get ys k ≡ Some y → slice_get (zip xs ys) k ≡ Some (x, y)
zip_at [] ys k x y at_x at_y = absurd (none-some x at_x)
zip_at (a ∷ xs) [] k x y at_x at_y = absurd (none-some y at_y)
zip_at (a ∷ xs) (b ∷ ys) zero x y at_x at_y = ap (λ z. Some (z, b)) (same_Some a x at_x) ∙ ap (λ z. Some (x, z)) (same_Some b y at_y)
zip_at (a ∷ xs) (b ∷ ys) (suc k) x y at_x at_y = zip_at xs ys k x y at_x at_y

pub zip_push : {A B : Type 0} (xs : List A) (ys : List B) (x : A) (y : B) → length xs ≡ length ys → zip (xs ++ x ∷ []) (ys ++ y ∷ []) ≡ zip xs ys ++ (x, y) ∷ []
zip_push [] [] x y same = refl
zip_push [] (b ∷ ys) x y same = absurd (omega arith)
zip_push (a ∷ xs) [] x y same = absurd (omega arith)
zip_push (a ∷ xs) (b ∷ ys) x y same = ap (λ l. (a, b) ∷ l) (zip_push xs ys x y (omega arith))

pub root_values : (prefix : List ℕ) (nodes : List Node) (edges : List Edge) (targets base : List (List ℕ)) (roots : List Edge) (u : ℕ → Bool) (w : Values) → AreValued prefix nodes edges targets base roots u w → map w targets ≡ map (value_of u) roots
root_values prefix nodes edges targets base roots u w are =
    let all = netted nodes edges in
    let nets = nets_of prefix base (length edges) in
    let root_of : List ℕ × Edge → NamedGate = λ p. root_gate all nets p.0 p.1 in
    let count = are.parts.count in
    let left = length-map targets w in
    let right = length-map roots (value_of u) in
    same_by_places (map w targets) (map (value_of u) roots) (omega arith) (λ k lt.
    let target = item_at targets k (omega arith) in
    let root = item_at roots k (omega arith) in
    let pair = Contains_at (zip targets roots) k (target.0, root.0) (zip_at targets roots k target.0 root.0 target.1 root.1) in
    let gate = Contains-append_right (map (edge_gate nodes all nets) edges) (map root_of (zip targets roots)) _ (Contains-map root_of (zip targets roots) (target.0, root.0) pair) in
    let bit : w target.0 ≡ value_of u root.0 = are.consistent (root_gate all nets target.0 root.0) gate ∙ root_value prefix nodes edges targets base roots u w are root.0 (Contains_at roots k root.0 root.1) in
    slice_get-map w targets k ∙ ap (option_map w) target.1 ∙ ap Some bit ∙ sym (slice_get-map (value_of u) roots k ∙ ap (option_map (value_of u)) root.1))
