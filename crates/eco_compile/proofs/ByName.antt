-- Edges of nets by the names of the nets.
use Rattle.std.proofs.Common.{◌≡◌, ◌≢◌, ℕ, ◌+◌, ◌<◌, ◌≤◌, Bool, List, [], ◌∷◌, ◌++◌, Some, length, get_or, take, map, sym, ◌∙◌, ap, subst, arith, length-append, inl, inr}
use Rattle.std.specs.Prelude.{option_map}
use Rattle.std.specs.List.{slice_get, All, AllPairs, Contains, IsDistinct}
use Rattle.std.specs.Str.{bytes_eq}
use Rattle.std.proofs.lemmas.List.{length-map, map-append, take_all}
use Rattle.std.proofs.lemmas.List.Elements.{All-push, Contains-append_cases}
use Rattle.std.proofs.lemmas.Option.{slice_get-get_or, slice_get_within, slice_get-map, same_Some}
use Rattle.eco_meaning.specs.Names.{has}
use Rattle.eco_meaning.specs.Circuit.{Circuit, names, IsTarget, AreTargets}
use Rattle.eco_lists.proofs.Places.{place_of, item_at, All_at, Contains_at, pairs_from_places, same_by_places}
use Rattle.eco_gates.specs.declared.gate.NetId.{NetId}
use Rattle.eco_netlist.specs.Netlists.{IsChecked, name_at, names_at, AreNets}
use Rattle.eco_netlist.proofs.NameLemmas.{one_place, unmapped}
use Rattle.eco_netlist.proofs.NameSets.{distinct-filter, distinct_front}
use Rattle.eco_netlist.proofs.NetNames.{names_at_more, named_place}
use Rattle.eco_netlist.proofs.SoundNetlists.{sound_netlist}
use Rattle.eco_aig.specs.declared.edge.Edge.{Edge}
use Rattle.eco_aig.specs.declared.node.Node.{Node}
use Rattle.eco_aig.specs.Edges.{value_of, bits_of}
use Rattle.eco_aig.specs.Graph.{IsEdge}
use Rattle.eco_compile.specs.Compiled.{AreEdges, IsBound, values_of}
use Rattle.eco_compile.proofs.OpenNets.{IsBoundTo, named_values}
use Rattle.eco_compile.specs.Bound.{HasInputEdges}

-- two images that are one list have one element at each place
image_at : {X Y Z : Type 0} (f : X → Z) (g : Y → Z) (xs : List X) (ys : List Y) (k : ℕ) (x : X) (y : Y) → map f xs ≡ map g ys → slice_get xs k ≡ Some x → slice_get ys k ≡ Some y → f x ≡ g y
image_at f g xs ys k x y same at_x at_y =
    same_Some (f x) (g y) (sym (slice_get-map f xs k ∙ ap (option_map f) at_x) ∙ ap (λ list. slice_get list k) same ∙ slice_get-map g ys k ∙ ap (option_map g) at_y)

-- a table's value at a name is that of the edge at the name's place
pub value_at_name : (n : Circuit) (w : ℕ → Bool) (table : List Edge) (k : ℕ) (name : List ℕ) (e : Edge) → IsDistinct bytes_eq (names n) → length table ≡ length (names n) → slice_get (names n) k ≡ Some name → slice_get table k ≡ Some e → values_of n w table name ≡ value_of w e
value_at_name n w table k name e distinct len at_name at_edge =
    image_at (values_of n w table) (value_of w) (names n) table k name e (named_values n table w distinct len) at_name at_edge

-- a name's place is one of the table
pub place_in_table : (n : Circuit) (table : List Edge) (k : ℕ) (name : List ℕ) → length table ≡ length (names n) → slice_get (names n) k ≡ Some name → k < length table
place_in_table n table k name len at = subst (λ (m : ℕ). k < m) (sym len) (slice_get_within (names n) k name at)

-- the edges of the first k nets are found
pub record AreFoundTo (list : List (List ℕ)) (nets : List NetId) (to : Circuit) (table : List Edge) (k : ℕ) (edges : List Edge) : Type 0 where
  pub len : length edges ≡ k
  pub within : (nodes : List Node) → AreEdges nodes table → AreEdges nodes edges
  pub values : (w : ℕ → Bool) → map (values_of to w table) (names_at list (take k nets)) ≡ bits_of w edges

pub found_more : (list : List (List ℕ)) (nets : List NetId) (to : Circuit) (table edges more : List Edge) (k : ℕ) (d : NetId) (name : List ℕ) (e : Edge) → k < length nets → slice_get list (get_or nets k d).0 ≡ Some name → more ≡ edges ++ e ∷ [] → ((nodes : List Node) → AreEdges nodes table → IsEdge nodes e) → ((w : ℕ → Bool) → values_of to w table name ≡ value_of w e) → AreFoundTo list nets to table k edges → AreFoundTo list nets to table (k + 1) more
found_more list nets to table edges more k d name e lt at pushed within value is = record {
  len = ap length pushed ∙ length-append edges (e ∷ []) ∙ ap (λ n. n + 1) is.len;
  within = λ nodes are. subst (AreEdges nodes) (sym pushed) (All-push (IsEdge nodes) edges e (is.within nodes are) (within nodes are));
  values = λ w.
      ap (map (values_of to w table)) (names_at_more list nets k d name lt at)
      ∙ map-append (values_of to w table) (names_at list (take k nets)) (name ∷ [])
      ∙ ap (λ (bits : List Bool). bits ++ values_of to w table name ∷ []) (is.values w)
      ∙ ap (λ (bit : Bool). bits_of w edges ++ bit ∷ []) (value w)
      ∙ sym (ap (bits_of w) pushed ∙ map-append (value_of w) edges (e ∷ []));
}

-- all nets
pub found_all : (list : List (List ℕ)) (nets : List NetId) (to : Circuit) (table : List Edge) (k : ℕ) (edges : List Edge) → length nets ≤ k → AreFoundTo list nets to table k edges → (w : ℕ → Bool) → map (values_of to w table) (names_at list nets) ≡ bits_of w edges
found_all list nets to table k edges le is w =
    sym (ap (λ (front : List NetId). map (values_of to w table) (names_at list front)) (take_all k nets le)) ∙ is.values w

-- what holds of the names of nets holds of the name of each
pub at_each_name : (P : List ℕ → Type 0) (list : List (List ℕ)) (nets : List NetId) (k : ℕ) (d : NetId) (name : List ℕ) → k < length nets → slice_get list (get_or nets k d).0 ≡ Some name → All P (names_at list nets) → P name
at_each_name P list nets k d name lt at all =
    subst P (named_place list nets k d name lt at) (all k [] (subst (λ (n : ℕ). k < n) (sym (length-map nets (λ (net : NetId). name_at list net.0))) lt))

-- nets with different names are different
apart_by_names : (list : List (List ℕ)) (nets : List NetId) → IsDistinct bytes_eq (names_at list nets) → AllPairs (λ a b. a.0 ≢ b.0) nets
apart_by_names list nets distinct =
    pairs_from_places (λ a b. a.0 ≢ b.0) nets (λ i j a b lt at_i at_j same.
    let at_name : (k : ℕ) (net : NetId) → slice_get nets k ≡ Some net → slice_get (names_at list nets) k ≡ Some (name_at list net.0) = λ k net at. slice_get-map (λ (net : NetId). name_at list net.0) nets k ∙ ap (option_map (λ (net : NetId). name_at list net.0)) at in
    let at_j_same : slice_get (names_at list nets) j ≡ Some (name_at list a.0) = at_name j b at_j ∙ ap (λ (k : ℕ). Some (name_at list k)) (sym same) in
    let equal = one_place (names_at list nets) i j (name_at list a.0) distinct (at_name i a at_i) at_j_same in
    omega (arith, lt, equal))

pub inputs_apart : (n : Circuit) (nets : List NetId) → IsChecked n → names_at (names n) nets ≡ n.inputs → AllPairs (λ a b. a.0 ≢ b.0) nets
inputs_apart n nets checked named =
    apart_by_names (names n) nets (subst (IsDistinct bytes_eq) (sym (named ∙ checked.inputs)) (distinct-filter (has n.inputs) n.ports (distinct_front n.ports n.wires checked.distinct)))

-- the table has the edges of all inputs
pub table_of_inputs : (f : Circuit) (nodes : List Node) (nets : List NetId) (inputs table : List Edge) (k : ℕ) → IsChecked f → names_at (names f) nets ≡ f.inputs → AreNets (names f) nets → length nets ≤ k → IsBoundTo nodes nets inputs (length (names f)) k table → HasInputEdges f inputs table
table_of_inputs f nodes nets inputs table k checked named within le is w v has name c =
    let place = place_of f.inputs name c in
    let j = place.0 in
    let found = unmapped (λ (net : NetId). name_at (names f) net.0) nets j name (ap (λ (list : List (List ℕ)). slice_get list j) named ∙ place.1) in
    let net = found.0 in
    let lt : net.0 < length (names f) = All_at (λ (net : NetId). net.0 < length (names f)) nets j net within found.1 in
    let at_net : slice_get (names f) net.0 ≡ Some name = slice_get-get_or (names f) net.0 [] lt ∙ ap (λ (x : List ℕ). Some x) found.2 in
    let below : j < k = (let in_nets = slice_get_within nets j net found.1 in omega (arith, in_nets, le)) in
    let item = item_at table net.0 (subst (λ (n : ℕ). net.0 < n) (sym is.len) lt) in
    let e = item.0 in
    let given : slice_get inputs j ≡ Some e = sym (is.bound j net below found.1) ∙ item.1 in
    image_at v (value_of w) f.inputs inputs j name e has place.1 given ∙ sym (value_at_name f w table net.0 name e checked.distinct is.len at_net item.1)

-- the nets of the inputs and the targets have the bits of the given edges
pub bound_bits : (n : Circuit) (targets : List (List ℕ)) (bind edges : List Edge) (w : ℕ → Bool) → IsChecked n → AreTargets n targets → length (n.inputs ++ targets) ≡ length bind → length edges ≡ length (names n) → IsBound n bind edges → map (values_of n w edges) (n.inputs ++ targets) ≡ bits_of w bind
bound_bits n targets bind edges w checked are count len bound =
    same_by_places (map (values_of n w edges) given) (bits_of w bind) (length-map given (values_of n w edges) ∙ count ∙ sym (length-map bind (value_of w))) (λ k lt.
    at k (subst (λ (m : ℕ). k < m) (length-map given (values_of n w edges)) lt))
  where
    given : List (List ℕ)
    given = n.inputs ++ targets

    open_net : (name : List ℕ) → Contains given name → Contains (names n) name
    open_net name c = elim (Contains-append_cases n.inputs targets name c) [
      | inl input ↦ (sound_netlist n checked).inputs name input
      | inr target ↦ (let at = place_of targets name target in (All_at (IsTarget n) targets at.0 name are.sound at.1).net)
    ]

    at : (k : ℕ) → k < length given → slice_get (map (values_of n w edges) given) k ≡ slice_get (bits_of w bind) k
    at k lt =
        let item = item_at given k lt in
        let name = item.0 in
        let place = place_of (names n) name (open_net name (Contains_at given k name item.1)) in
        let given_edge = item_at bind k (subst (λ (m : ℕ). k < m) count lt) in
        let e = given_edge.0 in
        let edge : slice_get edges place.0 ≡ Some e = bound.bound targets are k place.0 name item.1 place.1 ∙ given_edge.1 in
        let value : values_of n w edges name ≡ value_of w e = value_at_name n w edges place.0 name e checked.distinct len place.1 edge in
        slice_get-map (values_of n w edges) given k ∙ ap (option_map (values_of n w edges)) item.1 ∙ ap (λ (b : Bool). Some b) value
        ∙ sym (slice_get-map (value_of w) bind k ∙ ap (option_map (value_of w)) given_edge.1)
