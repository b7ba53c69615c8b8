-- What is told of the nets by their numbers, told by their names.
use Rattle.std.proofs.Common.{◌≡◌, ◌≢◌, ◌⊎◌, inl, inr, ◌<◌, ℕ, Bool, List, [], ◌∷◌, ◌++◌, Some, length, map, sym, ◌∙◌, ap, subst}
use Rattle.std.specs.List.{All, AllPairs, Contains}
use Rattle.std.proofs.lemmas.List.{map-append, append_assoc}
use Rattle.std.proofs.lemmas.List.Elements.{All-contains, Contains-append_cases}
use Rattle.std.proofs.lemmas.Option.{slice_get-get_or, slice_get_within, get_or_from_slice_get}
use Rattle.eco_lists.proofs.Members.{All-front, Contains-map, map-Contains}
use Rattle.eco_lists.proofs.Places.{All_from_places, Contains_at, pairs_from_places, pairs_front, pair_at, place_of}
use Rattle.eco_meaning.specs.Circuit.{Circuit, names, IsDriven}
use Rattle.eco_meaning.specs.Meaning.{Goal, IsWrong}
use Rattle.eco_choices.specs.Choices.{IsWrongBut, IsChoice}
use Rattle.eco_choices.specs.Located.{IsExcluded, IsLocated}
use Rattle.eco_gates.specs.declared.gate.NetId.{NetId}
use Rattle.eco_netlist.specs.Netlists.{IsChecked, AreNets, name_at, names_at}
use Rattle.eco_netlist.proofs.NameLemmas.{one_place, unmapped}
use Rattle.eco_netlist.proofs.Plainly.{Contains-flat_map}
use Rattle.eco_locate.specs.declared.answer.Excluding.{Excluding}
use Rattle.eco_locate.specs.declared.answer.Located.{Located}
use Rattle.eco_locate.specs.Judged.{Excludes, IsJudged, excluded_nets, nets_in}
use Rattle.eco_locate.specs.Laws.{JudgedIsLocated}

-- what holds of the name of each net holds of each name
named : (f : Circuit) (P : List ℕ → Type 0) (nets : List NetId) → All (λ net. P (name_at (names f) net.0)) nets → All P (names_at (names f) nets)
named f P nets all =
    All_from_places P (names_at (names f) nets) (λ k name at.
    let (net, c, same) = map-Contains (λ (net : NetId). name_at (names f) net.0) nets name (Contains_at (names_at (names f) nets) k name at) in
    subst P same (All-contains (λ (net : NetId). P (name_at (names f) net.0)) nets net all c))

-- different nets have different names
named_apart : (f : Circuit) (nets : List NetId) → IsChecked f → AreNets (names f) nets → AllPairs (λ a b. a ≢ b) nets → AllPairs (λ a b. a ≢ b) (names_at (names f) nets)
named_apart f nets checked within once =
    pairs_from_places (λ a b. a ≢ b) (names_at (names f) nets) (λ i j a b less at_a at_b equal.
    let (x, here_x, is_x) = unmapped (λ (net : NetId). name_at (names f) net.0) nets i a at_a in
    let (y, here_y, is_y) = unmapped (λ (net : NetId). name_at (names f) net.0) nets j b at_b in
    pair_at (λ (a b : NetId). a ≢ b) nets i j x y once less here_x here_y
    (same_net x y (All-contains Within nets x within (Contains_at nets i x here_x)) (All-contains Within nets y within (Contains_at nets j y here_y)) (is_x ∙ equal ∙ sym is_y)))
  where
    Within : NetId → Type 0
    Within net = net.0 < length (names f)

    same_net : (x y : NetId) → Within x → Within y → name_at (names f) x.0 ≡ name_at (names f) y.0 → x ≡ y
    same_net x y in_x in_y same =
        let number : x.0 ≡ y.0 = one_place (names f) x.0 y.0 (name_at (names f) y.0) checked.distinct
        (slice_get-get_or (names f) x.0 [] in_x ∙ ap (λ (name : List ℕ). Some name) same) (slice_get-get_or (names f) y.0 [] in_y) in
        ap (λ (n : ℕ). let id : NetId = record { 0 = n } in id) number

module _ (f : Circuit) (goal : Goal) (limit : ℕ) (located : Located) (checked : IsChecked f) (is : IsJudged f goal limit located) where
  abbrev listed : List NetId
  listed = located.listed.items

  abbrev over : List NetId
  over = map (λ o. o.net) located.over.items

  abbrev excluded : List NetId
  excluded = excluded_nets located.excluding.items

  abbrev inputs : List (List Bool)
  inputs = map (λ e. e.input) located.excluding.items

  parts : nets_in located ≡ (listed ++ over) ++ excluded
  parts = sym (append_assoc listed over excluded)

  both : names_at (names f) (listed ++ over) ≡ names_at (names f) listed ++ names_at (names f) over
  both = map-append (λ (net : NetId). name_at (names f) net.0) listed over

  first : (P : NetId → Type 0) → All P (nets_in located) → All P (listed ++ over)
  first P all = All-front P (listed ++ over) excluded (subst (All P) parts all)

  by : (name : List ℕ) (net : NetId) → name_at (names f) net.0 ≡ name → Contains listed net ⊎ Contains (over ++ excluded) net → Contains (names_at (names f) listed) name ⊎ Contains (names_at (names f) over) name ⊎ IsExcluded f goal inputs name
  by name net same c = elim c [
    | inl here ↦ inl (subst (Contains (names_at (names f) listed)) same (Contains-map (λ (net : NetId). name_at (names f) net.0) listed net here))
    | inr from ↦ elim (Contains-append_cases over excluded net from) [
      | inl left ↦ inr (inl (subst (Contains (names_at (names f) over)) same (Contains-map (λ (net : NetId). name_at (names f) net.0) over net left)))
      | inr taken ↦
          let (e, among, held) = Contains-flat_map (λ (e : Excluding). e.nets.items) located.excluding.items net taken in
          let excludes = All-contains (Excludes f goal) located.excluding.items e is.told.excluded among in
          inr (inr (record {
            input = e.input;
            among = Contains-map (λ (e : Excluding). e.input) located.excluding.items e among;
            wrong = subst (λ (n : List ℕ). IsWrongBut f goal (n ∷ []) e.input) same
                (All-contains (λ (net : NetId). IsWrongBut f goal (name_at (names f) net.0 ∷ []) e.input) e.nets.items net excludes.still held);
          }))
    ]
  ]

  is_located : IsLocated f goal (names_at (names f) listed) (names_at (names f) over) inputs
  is_located = record {
    once = subst (AllPairs (λ a b. a ≢ b)) both
        (named_apart f (listed ++ over) checked (first (λ net. net.0 < length (names f)) is.all.within)
        (pairs_front (λ a b. a ≢ b) (listed ++ over) excluded (subst (AllPairs (λ a b. a ≢ b)) parts is.all.once)));
    driven = subst (All (IsDriven f)) both (named f (IsDriven f) (listed ++ over) (first (λ net. IsDriven f (name_at (names f) net.0)) is.all.driven));
    choices = named f (λ name. IsChoice f goal (name ∷ [])) listed is.told.choices;
    wrong = All_from_places (IsWrong f goal) inputs (λ k input at.
        let (e, c, same) = map-Contains (λ (e : Excluding). e.input) located.excluding.items input (Contains_at inputs k input at) in
        subst (IsWrong f goal) same (All-contains (Excludes f goal) located.excluding.items e is.told.excluded c).wrong);
    complete = λ name driven.
        let (g, member, out) = driven in
        let (k, at) = place_of (names f) name (subst (Contains (names f)) out (checked.driven_nets g member)) in
        let net : NetId = record { 0 = k } in
        let same : name_at (names f) k ≡ name = get_or_from_slice_get (names f) k name [] at in
        let here : Contains (nets_in located) net = is.all.complete net (slice_get_within (names f) k name at) (subst (IsDriven f) (sym same) driven) in
        by name net same (Contains-append_cases listed (over ++ excluded) net here);
  }

pub judged_is_located : JudgedIsLocated
judged_is_located f goal limit located checked is = is_located f goal limit located checked is
