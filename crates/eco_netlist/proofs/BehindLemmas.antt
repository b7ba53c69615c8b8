-- Behind which targets nets lie, and which outputs they reach: numbers of nets and names.
use Rattle.std.proofs.Common.{◌≡◌, ◌≢◌, ℕ, ◌<◌, inl, inr, List, [], ◌∷◌, Some, length, get_or, map, take, sym, ◌∙◌, ap, subst, arith}
use Rattle.std.specs.Prelude.{option_map}
use Rattle.std.specs.List.{slice_get, AllPairs, Contains, IsDistinct}
use Rattle.std.specs.Str.{bytes_eq}
use Rattle.std.proofs.lemmas.Bool.{cases_lt}
use Rattle.std.proofs.lemmas.List.{length-map}
use Rattle.std.proofs.lemmas.List.Elements.{Contains-get_or}
use Rattle.std.proofs.lemmas.Map.Keys.{sorted_from_strictly_increasing, below_from_sorted}
use Rattle.std.proofs.lemmas.Option.{slice_get-get_or, slice_get_within, get_or_from_slice_get, slice_get-map}
use Rattle.std.proofs.lemmas.Map.Made.{IsDistinct-from_AllPairs}
use Rattle.std.proofs.lemmas.Slice.Eq.{bytes_eq-Decides}
use Rattle.eco_lists.proofs.Members.{Contains_first, only_one}
use Rattle.eco_lists.proofs.Places.{place_of, Contains_at, All_at, pairs_from_places, place_in_front, slice_get-take}
use Rattle.eco_meaning.specs.Names.{target_number}
use Rattle.eco_meaning.specs.Circuit.{Circuit, names, Fan, IsTarget, AreTargets}
use Rattle.eco_gates.specs.declared.gate.NetId.{NetId}
use Rattle.eco_gates.specs.GateValue.{GateValue}
use Rattle.eco_gates.specs.Gates.{IsWithin}
use Rattle.eco_gates.specs.Reach.{FanNet}
use Rattle.eco_gates.specs.Spread.{AreGreatest, AreLeast, number_at}
use Rattle.eco_netlist.specs.Behind.{AreLastTargets}
use Rattle.eco_netlist.specs.Reached.{ArePlaces, AreLasts, AreFirstOutputs}
use Rattle.eco_netlist.specs.Netlists.{name_at, names_at, named_gate, AreNets}
use Rattle.eco_netlist.proofs.FanNames.{Fan-from_nets, nets_from_Fan}
use Rattle.eco_netlist.proofs.NameLemmas.{one_place, unmapped}

-- nets with different names are apart
pub nets_apart : (list : List (List ℕ)) (nets : List NetId) → IsDistinct bytes_eq (names_at list nets) → AllPairs (λ (a b : NetId). a.0 ≢ b.0) nets
nets_apart list nets distinct =
    pairs_from_places (λ (a b : NetId). a.0 ≢ b.0) nets (λ i j a b lt at_i at_j same.
    let name = name_at list b.0 in
    let first : slice_get (names_at list nets) i ≡ Some name = slice_get-map (λ (n : NetId). name_at list n.0) nets i ∙ ap (option_map (λ (n : NetId). name_at list n.0)) at_i ∙ ap (λ (n : ℕ). Some (name_at list n)) same in
    let second : slice_get (names_at list nets) j ≡ Some name = slice_get-map (λ (n : NetId). name_at list n.0) nets j ∙ ap (option_map (λ (n : NetId). name_at list n.0)) at_j in
    let clash = one_place (names_at list nets) i j name distinct first second in
    omega (arith, lt, clash))

-- a list that rises by number has a name at one place
pub rising_place : (targets : List (List ℕ)) (f : Circuit) (i j : ℕ) (name : List ℕ) → AreTargets f targets → slice_get targets i ≡ Some name → slice_get targets j ≡ Some name → i < j → ⊥
rising_place targets f i j name are at_i at_j lt =
    let rising = sorted_from_strictly_increasing (map target_number targets) are.ordered in
    let number : (k : ℕ) → slice_get targets k ≡ Some name → get_or (map target_number targets) k 0 ≡ target_number name = λ k at.
    get_or_from_slice_get (map target_number targets) k (target_number name) 0 (slice_get-map target_number targets k ∙ ap (option_map target_number) at) in
    let room : j < length (map target_number targets) = rw length-map (slice_get_within targets j name at_j) in
    let below = below_from_sorted (map target_number targets) i j 0 rising lt room in
    let first = number i at_i in
    let second = number j at_j in
    omega (arith, below, first, second)

pub target_place : (targets : List (List ℕ)) (f : Circuit) (i j : ℕ) (name : List ℕ) → AreTargets f targets → slice_get targets i ≡ Some name → slice_get targets j ≡ Some name → i ≡ j
target_place targets f i j name are at_i at_j =
    elim (cases_lt i j) [
      | inl lt ↦ absurd (rising_place targets f i j name are at_i at_j lt)
      | inr le ↦ elim (cases_lt j i) [
        | inl gt ↦ absurd (rising_place targets f j i name are at_j at_i gt)
        | inr ge ↦ omega (arith, le, ge)
      ]
    ]

-- the nets of the targets are apart
pub targets_apart : (f : Circuit) (list : List (List ℕ)) (nets : List NetId) → AreTargets f (names_at list nets) → AllPairs (λ (a b : NetId). a.0 ≢ b.0) nets
targets_apart f list nets are =
    pairs_from_places (λ (a b : NetId). a.0 ≢ b.0) nets (λ i j a b lt at_i at_j same.
    let name = name_at list b.0 in
    let first : slice_get (names_at list nets) i ≡ Some name = slice_get-map (λ (n : NetId). name_at list n.0) nets i ∙ ap (option_map (λ (n : NetId). name_at list n.0)) at_i ∙ ap (λ (n : ℕ). Some (name_at list n)) same in
    let second : slice_get (names_at list nets) j ≡ Some name = slice_get-map (λ (n : NetId). name_at list n.0) nets j ∙ ap (option_map (λ (n : NetId). name_at list n.0)) at_j in
    rising_place (names_at list nets) f i j name are first second lt)

-- ---- a fan-out of one net, by numbers and by names
fan_named : (n : Circuit) (list : List (List ℕ)) (gates : List GateValue) → n.gates ≡ map (named_gate list) gates → (source net : NetId) → FanNet gates (source ∷ []) net → Fan n (name_at list source.0) (name_at list net.0)
fan_named n list gates e source net fan =
    let any = Fan-from_nets n list gates (source ∷ []) e net fan in
    subst (λ (x : List ℕ). Fan n x (name_at list net.0)) (sym (only_one (name_at list source.0) any.1 (any.0, any.2, any.3))) any.4

fan_numbered : (n : Circuit) (list : List (List ℕ)) (gates : List GateValue) → n.gates ≡ map (named_gate list) gates → IsDistinct bytes_eq list → IsWithin (length list) gates → (source net : NetId) (name target : List ℕ) → slice_get list source.0 ≡ Some name → slice_get list net.0 ≡ Some target → Fan n name target → FanNet gates (source ∷ []) net
fan_numbered n list gates e distinct within source net name target at_source at_net fan =
    nets_from_Fan n list gates (source ∷ []) e distinct within
    (λ k d lt. subst (λ (x : NetId). x.0 < length list) (only_one source (get_or (source ∷ []) k d) (Contains-get_or (source ∷ []) k d lt)) (slice_get_within list source.0 name at_source))
    name (subst (λ (x : List ℕ). Contains (names_at list (source ∷ [])) x) (get_or_from_slice_get list source.0 name [] at_source) (Contains_first (name_at list source.0) []))
    target fan net (slice_get_within list net.0 target at_net) (get_or_from_slice_get list net.0 target [] at_net)

-- ---- the last targets
pub lasts_by_name : (n : Circuit) (list : List (List ℕ)) (gates : List GateValue) (nets : List NetId) (starts lasts : List ℕ) → names n ≡ list → n.gates ≡ map (named_gate list) gates → IsDistinct bytes_eq list → IsWithin (length list) gates → AreNets list nets → ArePlaces (length list) nets (length nets) 1 0 starts → AreGreatest gates starts lasts → AreLasts n (names_at list nets) lasts
lasts_by_name n list gates nets starts lasts is e distinct within inside places greatest = record {
  count = greatest.len ∙ places.len ∙ ap length (sym is);
  reached = λ net last name at_net at_last some.
      let here : NetId = record { 0 = net } in
      let at : slice_get list net ≡ Some name = subst (λ (l : List (List ℕ)). slice_get l net ≡ Some name) is at_net in
      let below : net < length starts = subst (λ (m : ℕ). net < m) (sym places.len) (slice_get_within list net name at) in
      let source = greatest.reached here below in
      let number : number_at starts source.0 ≡ last = source.3 ∙ get_or_from_slice_get lasts net last 0 at_last in
      let named : name_at list net ≡ name = get_or_from_slice_get list net name [] at in
      elim (places.some source.0 (subst (λ (m : ℕ). source.0.0 < m) places.len source.1)) [
        | inl none ↦ absurd (omega (arith, none, number, some))
        | inr found ↦ (
          found.0,
          name_at list source.0.0,
          omega (arith, number, found.2),
          slice_get-map (λ (m : NetId). name_at list m.0) nets found.0 ∙ ap (option_map (λ (m : NetId). name_at list m.0)) found.1,
          subst (λ (x : List ℕ). Fan n (name_at list source.0.0) x) named (fan_named n list gates e source.0 here source.2),
        )
      ];
  greatest = λ net last name at_net at_last place target at_place fan.
      let here : NetId = record { 0 = net } in
      let at : slice_get list net ≡ Some name = subst (λ (l : List (List ℕ)). slice_get l net ≡ Some name) is at_net in
      let found = unmapped (λ (m : NetId). name_at list m.0) nets place target at_place in
      let low : found.0.0 < length list = All_at (λ (m : NetId). m.0 < length list) nets place found.0 inside found.1 in
      let at_target : slice_get list found.0.0 ≡ Some target = slice_get-get_or list found.0.0 [] low ∙ ap (λ (x : List ℕ). Some x) found.2 in
      let up = greatest.greatest found.0 here (fan_numbered n list gates e distinct within found.0 here target name at_target at fan) in
      let start = places.here place found.0 (slice_get_within nets place found.0 found.1) found.1 in
      let end = get_or_from_slice_get lasts net last 0 at_last in
      omega (arith, up, start, end);
}

pub last_targets_from : (f : Circuit) (lasts : List ℕ) → ((targets : List (List ℕ)) → AreTargets f targets → AreLasts f targets lasts) → (targets : List (List ℕ)) → AreTargets f targets → AreLastTargets f lasts
last_targets_from f lasts all some are_some = record {
  count = (all some are_some).count;
  behind = λ targets are net name at_net last at_last k. (
    λ le target is fan.
        let place = place_of targets target (are.complete target is) in
        let before = (all targets are).greatest net last name at_net at_last place.0 target place.1 fan in
        Contains_at (take k targets) place.0 target (slice_get-take k targets place.0 target (omega (arith, le, before)) place.1),
    λ only. elim (cases_lt k last) [
      | inr le ↦ le
      | inl above ↦
          let found = (all targets are).reached net last name at_net at_last (omega (arith, above)) in
          let member = only found.1 (All_at (IsTarget f) targets found.0 found.1 are.sound found.3) found.4 in
          let place = place_of (take k targets) found.1 member in
          let front = place_in_front k targets place.0 found.1 place.1 in
          let same = target_place targets f place.0 found.0 found.1 are front.1 found.3 in
          let last_is = found.2 in
          omega (arith, front.0, same, last_is)
    ],
  );
}

-- ---- the first outputs
pub firsts_by_name : (n : Circuit) (list : List (List ℕ)) (gates : List GateValue) (nets : List NetId) (ends firsts : List ℕ) → names n ≡ list → n.outputs ≡ names_at list nets → n.gates ≡ map (named_gate list) gates → IsDistinct bytes_eq list → IsWithin (length list) gates → AreNets list nets → ArePlaces (length list) nets (length nets) 0 (length nets) ends → AreLeast gates ends firsts → AreFirstOutputs n firsts
firsts_by_name n list gates nets ends firsts is outputs e distinct within inside places least = record {
  count = least.len ∙ places.len ∙ ap length (sym is);
  reached = λ net first name at_net at_first some.
      let here : NetId = record { 0 = net } in
      let at : slice_get list net ≡ Some name = subst (λ (l : List (List ℕ)). slice_get l net ≡ Some name) is at_net in
      let below : net < length ends = subst (λ (m : ℕ). net < m) (sym places.len) (slice_get_within list net name at) in
      let end = least.reached here below in
      let number : number_at ends end.0 ≡ first = end.3 ∙ get_or_from_slice_get firsts net first 0 at_first in
      let named : name_at list net ≡ name = get_or_from_slice_get list net name [] at in
      let few : first < length nets = rw length-map at (subst (λ (l : List (List ℕ)). first < length l) outputs some) in
      elim (places.some end.0 (subst (λ (m : ℕ). end.0.0 < m) places.len end.1)) [
        | inl none ↦ absurd (omega (arith, none, number, few))
        | inr found ↦
            let same : found.0 ≡ first = let last = found.2 in omega (arith, number, last) in (
              name_at list end.0.0,
              subst (λ (l : List (List ℕ)). slice_get l first ≡ Some (name_at list end.0.0)) (sym outputs) (slice_get-map (λ (m : NetId). name_at list m.0) nets first ∙ ap (option_map (λ (m : NetId). name_at list m.0)) (ap (slice_get nets) (sym same) ∙ found.1)),
              subst (λ (x : List ℕ). Fan n x (name_at list end.0.0)) named (fan_named n list gates e here end.0 end.2),
            )
      ];
  least = λ net first name at_net at_first place output at_place fan.
      let here : NetId = record { 0 = net } in
      let at : slice_get list net ≡ Some name = subst (λ (l : List (List ℕ)). slice_get l net ≡ Some name) is at_net in
      let found = unmapped (λ (m : NetId). name_at list m.0) nets place output (subst (λ (l : List (List ℕ)). slice_get l place ≡ Some output) outputs at_place) in
      let low : found.0.0 < length list = All_at (λ (m : NetId). m.0 < length list) nets place found.0 inside found.1 in
      let at_output : slice_get list found.0.0 ≡ Some output = slice_get-get_or list found.0.0 [] low ∙ ap (λ (x : List ℕ). Some x) found.2 in
      let down = least.least here found.0 (fan_numbered n list gates e distinct within here found.0 name output at at_output fan) in
      let end = places.here place found.0 (slice_get_within nets place found.0 found.1) found.1 in
      let start = get_or_from_slice_get firsts net first 0 at_first in
      omega (arith, down, start, end);
}

-- targets have different names
pub targets_distinct : (f : Circuit) (targets : List (List ℕ)) → AreTargets f targets → IsDistinct bytes_eq targets
targets_distinct f targets are =
    IsDistinct-from_AllPairs bytes_eq-Decides targets (pairs_from_places (λ x y. x ≢ y) targets (λ i j x y lt at_i at_j same.
    let place = target_place targets f i j y are (at_i ∙ ap Some same) at_j in
    omega arith))
