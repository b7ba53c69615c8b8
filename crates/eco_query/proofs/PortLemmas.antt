-- Ports and inputs by the numbers of their nets.
use Rattle.std.proofs.Common.{◌≡◌, ℕ, ◌+◌, ◌<◌, true, false, ltb, List, [], ◌++◌, length, get_or, sym, ◌∙◌, ap, inl, inr, arith, length-append}
use Rattle.std.specs.List.{IsDistinct, Contains}
use Rattle.std.specs.Str.{bytes_eq}
use Rattle.std.proofs.lemmas.Bool.{cases_lt, lt-ltb, le-ltb, false_from_ne_true}
use Rattle.std.proofs.lemmas.List.{get_or_append_left, get_or_default, get_or-map, length-map}
use Rattle.eco_netlist.proofs.NameSets.{Contains-from_has}
use Rattle.eco_meaning.specs.Names.{has}
use Rattle.eco_gates.specs.declared.gate.NetId.{NetId}
use Rattle.eco_netlist.specs.Netlists.{name_at, names_at}
use Rattle.eco_query.proofs.Places.{has_at, one_place}

-- there are as many nets as they have names
pub length-names_at : (all list : List (List ℕ)) (nets : List NetId) → names_at all nets ≡ list → length nets ≡ length list
length-names_at all list nets named =
    let f : NetId → List ℕ = λ net. name_at all net.0 in
    sym (length-map nets f) ∙ ap length named

-- a name of the front stands at a place of the front
in_front : (front rest : List (List ℕ)) (k : ℕ) → IsDistinct bytes_eq (front ++ rest) → k < length (front ++ rest) → Contains front (name_at (front ++ rest) k) → k < length front
in_front front rest k distinct within c =
    let all = front ++ rest in
    let name = name_at all k in
    let longer : length all ≡ length front + length rest = length-append front rest in
    let there : get_or all c.0 name ≡ name = get_or_append_left front rest name c.0 c.1 ∙ c.2 in
    let here : get_or all k name ≡ name = get_or_default all k name [] within in
    let same : c.0 ≡ k = one_place all c.0 k name distinct (omega arith) within (there ∙ sym here) in
    omega (arith, c.1)

-- a net is a port where its number is that of one
pub port-at : (front rest : List (List ℕ)) (k : ℕ) → IsDistinct bytes_eq (front ++ rest) → k < length (front ++ rest) → ltb k (length front) ≡ has front (name_at (front ++ rest) k)
port-at front rest k distinct within =
    let all = front ++ rest in
    elim (cases_lt k (length front)) [
      | inl lt ↦
          let front_has : has front (get_or front k []) ≡ true = has_at front k [] lt in
          let same : get_or all k [] ≡ get_or front k [] = get_or_append_left front rest [] k lt in
          lt-ltb k (length front) lt ∙ sym (ap (has front) same ∙ front_has)
      | inr ge ↦
          let apart : has front (name_at all k) ≡ false =
          false_from_ne_true (has front (name_at all k))
          (λ e. let below : k < length front = in_front front rest k distinct within (Contains-from_has front (name_at all k) e) in
          absurd (omega arith)) in
          le-ltb k (length front) ge ∙ sym apart
    ]

-- the name of one of these nets
pub named-at : (all list : List (List ℕ)) (nets : List NetId) (k : ℕ) (net : NetId) → names_at all nets ≡ list → k < length nets → get_or list k [] ≡ name_at all (get_or nets k net).0
named-at all list nets k net named within =
    let f : NetId → List ℕ = λ n. name_at all n.0 in
    ap (λ l. get_or l k []) (sym named) ∙ get_or-map f nets k net [] within

-- it stands in their list
pub has-named : (all list : List (List ℕ)) (nets : List NetId) (k : ℕ) (net : NetId) → names_at all nets ≡ list → k < length nets → has list (name_at all (get_or nets k net).0) ≡ true
has-named all list nets k net named within =
    let count : length nets ≡ length list = length-names_at all list nets named in
    sym (ap (has list) (named-at all list nets k net named within)) ∙ has_at list k [] (omega arith)
