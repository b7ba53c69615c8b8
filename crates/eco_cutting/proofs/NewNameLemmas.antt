-- Cuts with new names can be made.
use Rattle.std.proofs.Common.{◌≡◌, ◌≢◌, inl, inr, ℕ, ◌+◌, ◌<◌, ◌≤◌, Bool, true, false, cond, List, Option, Some, None, [], ◌∷◌, ◌++◌, length, map, take, drop, get_or, refl, ap, sym, ◌∙◌, subst, arith}
use Rattle.std.specs.Prelude.{codes, is_some, MatchOption}
use Rattle.std.specs.List.{slice_get, All, AllPairs, Contains}
use Rattle.std.specs.List.Sorted.{IsStrictlyIncreasing}
use Rattle.std.specs.Str.{bytes_eq}
use Rattle.std.proofs.lemmas.List.{append-nil, append_cancel_left, get_or-map, length-map, length_push, map-append, take_all}
use Rattle.std.proofs.lemmas.List.Elements.{All-contains, All-map, All-push}
use Rattle.std.proofs.lemmas.List.FromFn.{filter_of_map_range_with_len_more}
use Rattle.std.proofs.lemmas.Map.Made.{IsDistinct-from_AllPairs, AllPairs-from_IsDistinct}
use Rattle.std.proofs.lemmas.Slice.Eq.{bytes_eq-Decides}
use Rattle.eco_lists.proofs.Members.{map-Contains}
use Rattle.eco_lists.proofs.Names.{same_name}
use Rattle.eco_lists.proofs.Places.{Contains_at, pair_at, pairs_from_places}
use Rattle.eco_lists.proofs.Tests.{both}
use Rattle.eco_meaning.specs.Names.{has, is_numeral, target_number}
use Rattle.eco_meaning.specs.Circuit.{Circuit, names, IsDriven}
use Rattle.eco_gates.specs.declared.gate.NetId.{NetId}
use Rattle.eco_laws.specs.Sound.{IsSound}
use Rattle.eco_laws.proofs.Members.{cases_member}
use Rattle.eco_netlist.specs.Netlists.{name_at, names_at}
use Rattle.eco_netlist.proofs.NameSets.{has-from_Contains, has-from_absent, IsDistinct-append}
use Rattle.eco_netlist.proofs.NetNames.{names_at_more}
use Rattle.eco_text.specs.Prefix.{IsFreshPrefix}
use Rattle.eco_text.proofs.NumberedNames.{fresh_numbered}
use Rattle.eco_cutting.specs.Cuts.{Cut, IsOldName, AreCuts}
use Rattle.eco_cutting.specs.NewNames.{IsFreeTarget, AreFewerFree, AreNamed, is_free, old_name, free_below, target_name, with_target}
use Rattle.eco_cutting.proofs.CutNames.{net_of, target_of, old_of}
use Rattle.eco_cutting.proofs.Picking.{pairs_to_map, pairs_from_map}
use Rattle.eco_cutting.proofs.TargetNames.{free_all, free_apart, free_few, free_ordered}

-- what all images have, each element's image has
All-from_map : {X : Type 0} (P : List ℕ → Type 0) (key : X → List ℕ) (xs : List X) → All P (map key xs) → All (λ x. P (key x)) xs
All-from_map P key xs all k d inside =
    let long = length-map xs key in
    subst P (get_or-map key xs k d (key d) inside) (all k (key d) (omega (arith, long, inside)))

-- a net that is found has the name
pub found_taken : (f : Circuit) (name : List ℕ) (net : Option NetId) → MatchOption net (has (names f) name ≡ false) (λ net. slice_get (names f) net.0 ≡ Some name) → is_some net ≡ has (names f) name
found_taken f name None absent = sym absent
found_taken f name (Some net) at = sym (has-from_Contains (names f) name (Contains_at (names f) net.0 name at))

-- too few targets are free
pub named_few : (f : Circuit) (nets : List NetId) (prefix : List ℕ) (number : ℕ) (cuts : List Cut) → 1000000000 ≤ number → AreNamed f nets prefix number cuts → length cuts < length nets → AreFewerFree f (length nets)
named_few f nets prefix number cuts all is fewer =
    let long = length-map cuts target_of in
    let same = ap length is.targets in
    free_few f number (length nets) all (omega (arith, long, same, fewer))

-- the next number, at a net that isn't cut yet
pub named_more : (f : Circuit) (nets : List NetId) (prefix : List ℕ) (number : ℕ) (cuts new : List Cut) (k : ℕ) (net : NetId) (name : List ℕ) → k ≡ length cuts → k < length nets → net ≡ get_or nets k net → slice_get (names f) net.0 ≡ Some name → AreNamed f nets prefix number cuts → new ≡ with_target f prefix name (target_name number) cuts → AreNamed f nets prefix (number + 1) new
named_more f nets prefix number cuts new k net name count inside at named is made =
    subst (AreNamed f nets prefix (number + 1)) (sym made) (go (is_free f (target_name number)) refl)
  where
    more : free_below f (number + 1) ≡ free_below f number ++ cond (is_free f (target_name number)) (target_name number ∷ []) []
    more = filter_of_map_range_with_len_more (is_free f) target_name 0 number number (omega arith)

    one : Cut
    one = record { net = name; target = target_name number; old = old_name f prefix name }

    go : (b : Bool) → is_free f (target_name number) ≡ b → AreNamed f nets prefix (number + 1) (with_target f prefix name (target_name number) cuts)
    go true e =
        subst (AreNamed f nets prefix (number + 1)) (sym (ap (λ b. cond b (cuts ++ one ∷ []) cuts) e))
        (let long = length_push cuts one in
        record {
          few = omega (arith, long, inside, count);
          nets_named =
              map-append net_of cuts (one ∷ []) ∙ ap (λ xs. xs ++ name ∷ []) is.nets_named
              ∙ ap (λ j. names_at (names f) (take j nets) ++ name ∷ []) (sym count)
              ∙ sym (names_at_more (names f) nets k net name inside (ap (λ m. slice_get (names f) m.0) (sym at) ∙ named))
              ∙ ap (λ j. names_at (names f) (take j nets)) (ap (λ j. j + 1) count ∙ sym long);
          targets =
              map-append target_of cuts (one ∷ []) ∙ ap (λ xs. xs ++ target_name number ∷ []) is.targets
              ∙ sym (more ∙ ap (λ b. free_below f number ++ cond b (target_name number ∷ []) []) e);
          olds = All-push (λ c. c.old ≡ old_name f prefix c.net) cuts one is.olds refl;
        })
    go false e =
        subst (AreNamed f nets prefix (number + 1)) (sym (ap (λ b. cond b (cuts ++ one ∷ []) cuts) e))
        (record {
          few = is.few;
          nets_named = is.nets_named;
          targets = is.targets ∙ sym (append-nil (free_below f number)) ∙ sym (more ∙ ap (λ b. free_below f number ++ cond b (target_name number ∷ []) []) e);
          olds = is.olds;
        })

-- the old names behind a prefix with which no name begins
module _ (f : Circuit) (prefix : List ℕ) (fresh : IsFreshPrefix (codes "old") (names f) prefix) where
  old_of_output : (net : List ℕ) → Contains f.outputs net → old_name f prefix net ≡ prefix ++ net
  old_of_output net port = ap (λ b. cond b (prefix ++ net) net) (has-from_Contains f.outputs net port)

  old_of_wire : (net : List ℕ) → (Contains f.outputs net → ⊥) → old_name f prefix net ≡ net
  old_of_wire net none = ap (λ b. cond b (prefix ++ net) net) (has-from_absent f.outputs net none)

  old_is : (c : Cut) → c.old ≡ old_name f prefix c.net → IsOldName f c
  old_is c is = record {
    port = λ port net. fresh_numbered (codes "old") (names f) prefix fresh c.net (subst (Contains (names f)) (is ∙ old_of_output c.net port) net);
    wire = λ none. is ∙ old_of_wire c.net none;
  }

  -- two nets have two old names
  one_net : (a b : List ℕ) → Contains (names f) a → Contains (names f) b → old_name f prefix a ≡ old_name f prefix b → a ≡ b
  one_net a b net_a net_b same =
      elim (cases_member f.outputs a) [
        | inl port ↦ elim (cases_member f.outputs b) [
          | inl other ↦ append_cancel_left prefix a b (sym (old_of_output a port) ∙ same ∙ old_of_output b other)
          | inr wire ↦ absurd (fresh_numbered (codes "old") (names f) prefix fresh a
              (subst (Contains (names f)) (sym (old_of_wire b wire) ∙ sym same ∙ old_of_output a port) net_b))
        ]
        | inr wire ↦ elim (cases_member f.outputs b) [
          | inl other ↦ absurd (fresh_numbered (codes "old") (names f) prefix fresh b
              (subst (Contains (names f)) (sym (old_of_wire a wire) ∙ same ∙ old_of_output b other) net_a))
          | inr neither ↦ sym (old_of_wire a wire) ∙ same ∙ old_of_wire b neither
        ]
      ]

  -- no free target is an old name
  target_is_new : (target net : List ℕ) → IsFreeTarget f target → Contains (names f) net → target ≡ old_name f prefix net → ⊥
  target_is_new target net is there same =
      elim (cases_member f.outputs net) [
        | inl port ↦
            let begun : target ≡ prefix ++ net = same ∙ old_of_output net port in
            let text = same_name (take 2 target) (codes "t_") (both (bytes_eq (take 2 target) (codes "t_")) (is_numeral (drop 2 target)) is.text).0 in
            let front = ap (λ p. take 2 (p ++ net)) (sym fresh.form) ∙ ap (take 2) (sym begun) ∙ text in
            let first : 111 ≡ 116 = ap (λ bytes. get_or bytes 0 0) front in
            omega (arith, first)
        | inr wire ↦ is.free (subst (Contains (names f)) (sym (same ∙ old_of_wire net wire)) there)
      ]

-- cuts of different driven nets, with free targets and such old names
module _ (f : Circuit) (sound : IsSound f) (nets : List NetId) (driven : All (λ net. IsDriven f (name_at (names f) net.0)) nets) (once : AllPairs (λ a b. a ≢ b) (names_at (names f) nets)) (prefix : List ℕ) (fresh : IsFreshPrefix (codes "old") (names f) prefix) (n : ℕ) (within : n ≤ 1000000000) (cuts : List Cut) (is : AreNamed f nets prefix n cuts) (all : length cuts ≡ length nets) where
  pub nets_are : map net_of cuts ≡ names_at (names f) nets
  nets_are = is.nets_named ∙ ap (names_at (names f)) (take_all (length cuts) nets (omega (arith, all)))

  net_driven : All (λ c. IsDriven f c.net) cuts
  net_driven = All-from_map (IsDriven f) net_of cuts (subst (All (IsDriven f)) (sym nets_are) (All-map (IsDriven f) (λ (net : NetId). name_at (names f) net.0) nets driven))

  is_net : (c : Cut) → Contains cuts c → Contains (names f) c.net
  is_net c member =
      let (g, here, same) = All-contains (λ c. IsDriven f c.net) cuts c net_driven member in
      subst (Contains (names f)) same (sound.driven_nets g here)

  old_at : (c : Cut) → Contains cuts c → c.old ≡ old_name f prefix c.net
  old_at c member = All-contains (λ c. c.old ≡ old_name f prefix c.net) cuts c is.olds member

  nets_apart : AllPairs (λ a b. a ≢ b) (map net_of cuts)
  nets_apart = subst (AllPairs (λ a b. a ≢ b)) (sym nets_are) once

  olds_apart : AllPairs (λ a b. a ≢ b) (map old_of cuts)
  olds_apart =
      pairs_to_map old_of cuts (pairs_from_places (λ a b. a.old ≢ b.old) cuts (λ i j a b less at_i at_j same.
      let has_a = Contains_at cuts i a at_i in
      let has_b = Contains_at cuts j b at_j in
      pair_at (λ a b. a.net ≢ b.net) cuts i j a b (pairs_from_map net_of cuts nets_apart) less at_i at_j
      (one_net f prefix fresh a.net b.net (is_net a has_a) (is_net b has_b) (sym (old_at a has_a) ∙ same ∙ old_at b has_b))))

  free : All (IsFreeTarget f) (map target_of cuts)
  free = subst (All (IsFreeTarget f)) (sym is.targets) (free_all f n within)

  pub named_are_cuts : AreCuts f cuts
  named_are_cuts = record {
    once = nets_apart;
    driven = net_driven;
    named = λ k d inside. (free k d inside).text;
    ordered = subst (λ targets. IsStrictlyIncreasing (map target_number targets)) (sym is.targets) (free_ordered f n within);
    new = record {
      fresh = λ k d inside. (All-from_map (IsFreeTarget f) target_of cuts free k d inside).free;
      olds = λ k d inside. old_is f prefix fresh (get_or cuts k d) (is.olds k d inside);
      apart =
          AllPairs-from_IsDistinct bytes_eq-Decides (map target_of cuts ++ map old_of cuts) (IsDistinct-append (map target_of cuts) (map old_of cuts)
          (IsDistinct-from_AllPairs bytes_eq-Decides (map target_of cuts) (subst (AllPairs (λ a b. a ≢ b)) (sym is.targets) (free_apart f n within)))
          (IsDistinct-from_AllPairs bytes_eq-Decides (map old_of cuts) olds_apart)
          (λ name target old.
          let (c, member, same) = map-Contains old_of cuts name old in
          target_is_new f prefix fresh name c.net (All-contains (IsFreeTarget f) (map target_of cuts) name free target) (is_net c member) (sym same ∙ old_at c member)));
    };
  }
