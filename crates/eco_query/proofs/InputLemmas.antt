-- Inputs found among the numbers of nets.
use Rattle.std.proofs.Common.{◌≡◌, ℕ, ◌<◌, ◌≤◌, Bool, List, [], ◌++◌, length, get_or, sym, ◌∙◌, ap, inl, inr, arith, Result, Ok, Err}
use Rattle.std.specs.declared.cmp.Ordering.TheVariants.{Less, Equal, Greater}
use Rattle.std.specs.List.{IsDistinct, Contains, filter, AllPairs}
use Rattle.std.specs.List.Sorted.{IsBinarySearchResult, IsSearchInRange, IsNonDecreasingBy}
use Rattle.std.specs.Ordering.{nat_cmp, ordering_index}
use Rattle.std.specs.Result.{is_ok}
use Rattle.std.specs.Str.{bytes_eq}
use Rattle.std.proofs.lemmas.Bool.{cases_lt, cases_order, false_from_ne_true}
use Rattle.std.proofs.lemmas.Bool.Decides.{nat_tests}
use Rattle.std.proofs.lemmas.List.{get_or-map, length-map}
use Rattle.eco_netlist.proofs.NameSets.{Contains-from_has}
use Rattle.eco_meaning.specs.Names.{has}
use Rattle.eco_gates.specs.declared.gate.NetId.{NetId}
use Rattle.eco_netlist.specs.Netlists.{name_at, names_at, AreNets}
use Rattle.eco_query.proofs.Places.{has_at, one_place, nets_rise}

nat_cmp-same : (a b : ℕ) → nat_cmp a b ≡ Equal → a ≡ b
nat_cmp-same a b e = grind (arith, nat_tests)

nat_cmp-refl : (a b : ℕ) → a ≡ b → nat_cmp a b ≡ Equal
nat_cmp-refl a b e = grind (arith, nat_tests)

index-rises : (a b x : ℕ) → a ≤ b → ordering_index (nat_cmp a x) ≤ ordering_index (nat_cmp b x)
index-rises a b x le = grind (arith, nat_tests)

-- numbers that rise are compared with one number in rising order
nets-searchable : (nets : List NetId) (net : NetId) → AllPairs (λ a b. a.0 < b.0) nets → IsNonDecreasingBy (λ y. ordering_index (nat_cmp y.0 net.0)) nets
nets-searchable nets net rise i j d le within =
    elim (cases_order i j) [
      | inl same ↦ let h : ordering_index (nat_cmp (get_or nets i d).0 net.0) ≡ ordering_index (nat_cmp (get_or nets j d).0 net.0) =
          ap (λ k. ordering_index (nat_cmp (get_or nets k d).0 net.0)) same in omega arith
      | inr apart ↦ elim apart [
        | inl below ↦ let h : (get_or nets i d).0 < (get_or nets j d).0 = rise i j d below within in
            index-rises (get_or nets i d).0 (get_or nets j d).0 net.0 (omega arith)
        | inr above ↦ absurd (omega arith)
      ]
    ]

-- the number of a net that has the name of one of these nets is that net's
found_at : (all list : List (List ℕ)) (nets : List NetId) (net : NetId) → IsDistinct bytes_eq all → AreNets all nets → names_at all nets ≡ list → net.0 < length all → (c : Contains list (name_at all net.0)) → (c.0 < length nets) × ((get_or nets c.0 net).0 ≡ net.0)
found_at all list nets net distinct within named net_in c =
    let f : NetId → List ℕ = λ n. name_at all n.0 in
    let name = name_at all net.0 in
    let count : length list ≡ length nets = sym (ap length named) ∙ length-map nets f in
    let c_in : c.0 < length nets = omega (arith, c.1) in
    let other = get_or nets c.0 net in
    let other_name : get_or list c.0 name ≡ name_at all other.0 =
    ap (λ l. get_or l c.0 name) (sym named) ∙ get_or-map f nets c.0 net name c_in in
    (c_in, one_place all other.0 net.0 [] distinct (within c.0 net c_in) net_in (sym other_name ∙ c.2))

-- a binary search among the inputs finds a net exactly where it is one
pub input-found : (front rest inputs : List (List ℕ)) (p : List ℕ → Bool) (nets : List NetId) (net : NetId) (r : Result ℕ ℕ) → IsDistinct bytes_eq (front ++ rest) → AreNets (front ++ rest) nets → names_at (front ++ rest) nets ≡ inputs → inputs ≡ filter p front → net.0 < length (front ++ rest) → IsSearchInRange r (length nets) → IsBinarySearchResult (λ y. nat_cmp y.0 net.0) nets r → is_ok r ≡ has inputs (name_at (front ++ rest) net.0)
input-found front rest inputs p nets net (Ok i) distinct within named sorted net_in bound answer =
    let all = front ++ rest in
    let f : NetId → List ℕ = λ n. name_at all n.0 in
    let count : length inputs ≡ length nets = sym (ap length named) ∙ length-map nets f in
    let same : (get_or nets i net).0 ≡ net.0 = nat_cmp-same (get_or nets i net).0 net.0 (answer net) in
    let there : get_or inputs i [] ≡ name_at all net.0 =
    ap (λ l. get_or l i []) (sym named) ∙ get_or-map f nets i net [] bound ∙ ap (name_at all) same in
    sym (sym (ap (has inputs) there) ∙ has_at inputs i [] (omega arith))
input-found front rest inputs p nets net (Err i) distinct within named sorted net_in bound answer =
    let all = front ++ rest in
    let name = name_at all net.0 in
    let split = answer (nets-searchable nets net (nets_rise front rest p nets distinct within (named ∙ sorted))) in
    sym (false_from_ne_true (has inputs name) (λ e.
    let found = found_at all inputs nets net distinct within named net_in (Contains-from_has inputs name e) in
    let k = (Contains-from_has inputs name e).0 in
    let equal : nat_cmp (get_or nets k net).0 net.0 ≡ Equal = nat_cmp-refl (get_or nets k net).0 net.0 found.1 in
    elim (cases_lt k i) [
      | inl below ↦ let less : nat_cmp (get_or nets k net).0 net.0 ≡ Less = split.0 k net (omega arith) below in
          let clash : Less ≡ Equal = sym less ∙ equal in cc
      | inr above ↦ let greater : nat_cmp (get_or nets k net).0 net.0 ≡ Greater = split.1 k net above found.0 in
          let clash : Greater ≡ Equal = sym greater ∙ equal in cc
    ]))
