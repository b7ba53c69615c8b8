-- The nets of edges: each edge has the net at its place, and edges that differ have nets that differ.
use Rattle.std.proofs.Common.{◌≡◌, ℕ, true, not, eqb, cond, List, [], Some, length, get_or, map, refl, sym, ◌∙◌, ap, arith}
use Rattle.std.specs.List.{Contains, IsDistinct, slice_get, position_or_len}
use Rattle.std.specs.Option.{option_map}
use Rattle.std.specs.Str.{bytes_eq}
use Rattle.std.proofs.lemmas.Bool.{false_from_ne_true, eqb-true, eq-eqb, and_from}
use Rattle.std.proofs.lemmas.Option.{same_Some, slice_get_within, slice_get-get_or, get_or_from_slice_get, slice_get-map}
use Rattle.std.proofs.lemmas.List.{length-map}
use Rattle.std.proofs.lemmas.List.Sums.{position_or_len_is}
use Rattle.eco_lists.proofs.Names.{same_name, bytes_eq-same}
use Rattle.eco_lists.proofs.Tests.{both, same_sign, sign_true}
use Rattle.eco_lists.proofs.Places.{place_of, item_at, Contains_at, same_by_places}
use Rattle.eco_aig.specs.declared.edge.Edge.{Edge}
use Rattle.eco_netlist.specs.Netlists.{name_at}
use Rattle.eco_netlist.proofs.NameLemmas.{one_place}
use Rattle.eco_splice.specs.GraphPatch.{same_edge, net_of}
use Rattle.eco_splice.proofs.WiredLemmas.{edge_is}

-- no edge stands at two places
abbrev pub IsOnce : List Edge → Type 0
IsOnce edges = (i j : ℕ) (e : Edge) → slice_get edges i ≡ Some e → slice_get edges j ≡ Some e → i ≡ j

-- edges that the test finds the same are, and an edge is the same as itself
pub same_edge_is : (a b : Edge) → same_edge a b ≡ true → a ≡ b
same_edge_is a b is =
    let parts = both (eqb a.node b.node) (cond a.complemented b.complemented (not b.complemented)) is in
    edge_is a b (eqb-true a.node b.node parts.0) (same_sign a.complemented b.complemented parts.1)

pub same_edge_itself : (e : Edge) → same_edge e e ≡ true
same_edge_itself e =
    and_from (eqb e.node e.node) (cond e.complemented e.complemented (not e.complemented)) (eq-eqb e.node e.node refl) (sign_true e.complemented e.complemented refl)

-- the place that an edge is found at
pub edge_place : (edges : List Edge) (i : ℕ) (e : Edge) → IsOnce edges → slice_get edges i ≡ Some e → position_or_len (same_edge e) edges ≡ i
edge_place edges i e once at =
    let within = slice_get_within edges i e at in
    position_or_len_is (same_edge e) edges i e (omega arith)
    (λ k lt. false_from_ne_true (same_edge e (get_or edges k e)) (λ is.
    let at_k : slice_get edges k ≡ Some e = slice_get-get_or edges k e (omega arith) ∙ ap Some (sym (same_edge_is e (get_or edges k e) is)) in
    let same = once k i e at_k at in
    omega arith))
    (λ lt. ap (same_edge e) (get_or_from_slice_get edges i e e at) ∙ same_edge_itself e)

pub net_at : (edges : List Edge) (nets : List (List ℕ)) (i : ℕ) (e : Edge) → IsOnce edges → slice_get edges i ≡ Some e → net_of edges nets e ≡ name_at nets i
net_at edges nets i e once at = ap (name_at nets) (edge_place edges i e once at)

-- the net at the place
pub net_is : (edges : List Edge) (nets : List (List ℕ)) (i : ℕ) (e : Edge) → IsOnce edges → length nets ≡ length edges → slice_get edges i ≡ Some e → slice_get nets i ≡ Some (net_of edges nets e)
net_is edges nets i e once count at =
    let within = slice_get_within edges i e at in
    slice_get-get_or nets i [] (omega arith) ∙ ap Some (sym (net_at edges nets i e once at))

pub net_member : (edges : List Edge) (nets : List (List ℕ)) (e : Edge) → IsOnce edges → length nets ≡ length edges → Contains edges e → Contains nets (net_of edges nets e)
net_member edges nets e once count c =
    let at = place_of edges e c in
    Contains_at nets at.0 (net_of edges nets e) (net_is edges nets at.0 e once count at.1)

-- edges with one net are one
pub net_apart : (edges : List Edge) (nets : List (List ℕ)) (e x : Edge) → IsOnce edges → length nets ≡ length edges → IsDistinct bytes_eq nets → Contains edges e → Contains edges x → net_of edges nets e ≡ net_of edges nets x → e ≡ x
net_apart edges nets e x once count distinct c d same =
    let at_e = place_of edges e c in
    let at_x = place_of edges x d in
    let net_e = net_is edges nets at_e.0 e once count at_e.1 in
    let net_x = net_is edges nets at_x.0 x once count at_x.1 in
    let place = one_place nets at_e.0 at_x.0 (net_of edges nets x) distinct (net_e ∙ ap Some same) net_x in
    same_Some e x (sym at_e.1 ∙ ap (slice_get edges) place ∙ at_x.1)

-- the nets of all edges, in order
pub all_nets : (edges : List Edge) (nets : List (List ℕ)) → IsOnce edges → length nets ≡ length edges → map (net_of edges nets) edges ≡ nets
all_nets edges nets once count =
    same_by_places (map (net_of edges nets) edges) nets (length-map edges (net_of edges nets) ∙ sym count) (λ k lt.
    let at = item_at edges k (let len = length-map edges (net_of edges nets) in omega arith) in
    slice_get-map (net_of edges nets) edges k ∙ ap (option_map (net_of edges nets)) at.1 ∙ sym (net_is edges nets k at.0 once count at.1))

-- the place of a name among different names
pub name_place : (list : List (List ℕ)) (i : ℕ) (name : List ℕ) → IsDistinct bytes_eq list → slice_get list i ≡ Some name → position_or_len (bytes_eq name) list ≡ i
name_place list i name distinct at =
    let within = slice_get_within list i name at in
    position_or_len_is (bytes_eq name) list i name (omega arith)
    (λ k lt. false_from_ne_true (bytes_eq name (get_or list k name)) (λ is.
    let at_k : slice_get list k ≡ Some name = slice_get-get_or list k name (omega arith) ∙ ap Some (sym (same_name name (get_or list k name) is)) in
    let same = one_place list k i name distinct at_k at in
    omega arith))
    (λ lt. ap (bytes_eq name) (get_or_from_slice_get list i name name at) ∙ bytes_eq-same name)

-- a name that isn't among them
pub no_place : (list : List (List ℕ)) (name : List ℕ) → (Contains list name → ⊥) → position_or_len (bytes_eq name) list ≡ length list
no_place list name none =
    position_or_len_is (bytes_eq name) list (length list) name (omega arith)
    (λ k lt. false_from_ne_true (bytes_eq name (get_or list k name)) (λ is. none (k, lt, sym (same_name name (get_or list k name) is))))
    (λ lt. absurd (omega arith))
