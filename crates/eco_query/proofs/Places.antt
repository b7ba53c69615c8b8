-- Places of names in lists without repeats.
use Rattle.std.proofs.Common.{◌≡◌, ℕ, ◌+◌, ◌<◌, Bool, true, List, ◌++◌, length, get_or, refl, sym, ◌∙◌, ap, arith, length-append}
use Rattle.std.specs.List.{position_or_len, AllPairs, IsDistinct, filter}
use Rattle.std.specs.Str.{bytes_eq}
use Rattle.std.proofs.lemmas.List.{get_or_append_left, get_or-map, length-map}
use Rattle.std.proofs.lemmas.List.Elements.{Contains-get_or}
use Rattle.std.proofs.lemmas.List.Kept.{AllPairs-filter}
use Rattle.std.proofs.lemmas.List.Sums.{position_or_len_is}
use Rattle.std.proofs.lemmas.Map.Keys.{apart_from_distinct}
use Rattle.std.proofs.lemmas.Slice.Eq.{bytes_eq-Decides}
use Rattle.eco_lists.proofs.Names.{bytes_eq-flip}
use Rattle.eco_netlist.proofs.NameSets.{has-from_Contains}
use Rattle.eco_meaning.specs.Names.{has}
use Rattle.eco_gates.specs.declared.gate.NetId.{NetId}
use Rattle.eco_netlist.specs.Netlists.{name_at, names_at, AreNets}

pub has_at : (list : List (List ℕ)) (k : ℕ) (d : List ℕ) → k < length list → has list (get_or list k d) ≡ true
has_at list k d within = has-from_Contains list (get_or list k d) (Contains-get_or list k d within)

-- the place of a name in a list
abbrev pub place : List (List ℕ) → List ℕ → ℕ
place list name = position_or_len (bytes_eq name) list

pub place-at : (list : List (List ℕ)) (k : ℕ) (d : List ℕ) → IsDistinct bytes_eq list → k < length list → place list (get_or list k d) ≡ k
place-at list k d distinct within =
    position_or_len_is (bytes_eq (get_or list k d)) list k d (omega arith)
    (λ j below. bytes_eq-flip (get_or list k d) (get_or list j d) ∙ apart_from_distinct bytes_eq list j k d distinct below within)
    (λ _. (bytes_eq-Decides (get_or list k d) (get_or list k d)).1 refl)

-- a name stands at one place
pub one_place : (list : List (List ℕ)) (i j : ℕ) (d : List ℕ) → IsDistinct bytes_eq list → i < length list → j < length list → get_or list i d ≡ get_or list j d → i ≡ j
one_place list i j d distinct i_in j_in same =
    sym (place-at list i d distinct i_in) ∙ ap (place list) same ∙ place-at list j d distinct j_in

-- the front of a list has its names in order
front_rises : (front rest : List (List ℕ)) → IsDistinct bytes_eq (front ++ rest) → AllPairs (λ x y. place (front ++ rest) x < place (front ++ rest) y) front
front_rises front rest distinct i j d below within =
    let whole : length (front ++ rest) ≡ length front + length rest = length-append front rest in
    let at_i : place (front ++ rest) (get_or front i d) ≡ i =
    ap (place (front ++ rest)) (sym (get_or_append_left front rest d i (omega arith)))
    ∙ place-at (front ++ rest) i d distinct (omega arith) in
    let at_j : place (front ++ rest) (get_or front j d) ≡ j =
    ap (place (front ++ rest)) (sym (get_or_append_left front rest d j within))
    ∙ place-at (front ++ rest) j d distinct (omega arith) in
    omega arith

-- nets rise whose names are some of the first names, in their order
pub nets_rise : (front rest : List (List ℕ)) (p : List ℕ → Bool) (nets : List NetId) → IsDistinct bytes_eq (front ++ rest) → AreNets (front ++ rest) nets → names_at (front ++ rest) nets ≡ filter p front → AllPairs (λ a b. a.0 < b.0) nets
nets_rise front rest p nets distinct within named i j d below j_in =
    let all = front ++ rest in
    let f : NetId → List ℕ = λ net. name_at all net.0 in
    let rises : AllPairs (λ x y. place all x < place all y) (filter p front) =
    AllPairs-filter (λ x y. place all x < place all y) p front (front_rises front rest distinct) in
    let rises' : AllPairs (λ x y. place all x < place all y) (names_at all nets) = rw named rises in
    let count : length (names_at all nets) ≡ length nets = length-map nets f in
    let apart = rises' i j (f d) below (omega arith) in
    let name_i : get_or (names_at all nets) i (f d) ≡ f (get_or nets i d) = get_or-map f nets i d (f d) (omega arith) in
    let name_j : get_or (names_at all nets) j (f d) ≡ f (get_or nets j d) = get_or-map f nets j d (f d) j_in in
    let at_i : place all (f (get_or nets i d)) ≡ (get_or nets i d).0 = place-at all (get_or nets i d).0 _ distinct (within i d (omega arith)) in
    let at_j : place all (f (get_or nets j d)) ≡ (get_or nets j d).0 = place-at all (get_or nets j d).0 _ distinct (within j d j_in) in
    let i_is : place all (get_or (names_at all nets) i (f d)) ≡ (get_or nets i d).0 = ap (place all) name_i ∙ at_i in
    let j_is : place all (get_or (names_at all nets) j (f d)) ≡ (get_or nets j d).0 = ap (place all) name_j ∙ at_j in
    omega arith
