-- The names that cuts bring.
use Rattle.std.proofs.Common.{◌≡◌, ◌≢◌, inl, inr, ℕ, ◌+◌, ◌<◌, List, [], ◌∷◌, map, length, take, get_or, ap, sym, ◌∙◌, subst}
use Rattle.std.specs.List.{All, AllPairs, Contains}
use Rattle.std.proofs.lemmas.List.Elements.{All-contains, Contains-append_cases}
use Rattle.std.proofs.lemmas.List.{map_more}
use Rattle.eco_lists.proofs.Members.{Contains-map, map-Contains, only_one}
use Rattle.eco_lists.proofs.Places.{pairs_front}
use Rattle.eco_meaning.specs.Circuit.{Circuit, names, IsDriven}
use Rattle.eco_laws.specs.Sound.{IsSound}
use Rattle.eco_laws.proofs.Members.{cases_member}
use Rattle.eco_cutting.specs.Cuts.{Cut, chosen_by, IsOldName, HasNewNames}
use Rattle.eco_cutting.proofs.Picking.{pairs_back, picked_at}

abbrev pub net_of : Cut → List ℕ
net_of c = c.net

abbrev pub target_of : Cut → List ℕ
target_of c = c.target

abbrev pub old_of : Cut → List ℕ
old_of c = c.old

-- different driven nets are cut, and have new names
pub record ArePlaced (f : Circuit) (cuts : List Cut) : Type 0 where
  pub once : AllPairs (λ a b. a ≢ b) (map net_of cuts)
  pub driven : All (λ c. IsDriven f c.net) cuts
  pub new : HasNewNames f cuts

module _ (f : Circuit) (cuts : List Cut) (placed : ArePlaced f cuts) where
  pub targets_apart : AllPairs (λ a b. a ≢ b) (map target_of cuts)
  targets_apart = pairs_front (λ a b. a ≢ b) (map target_of cuts) (map old_of cuts) placed.new.apart

  pub olds_apart : AllPairs (λ a b. a ≢ b) (map old_of cuts)
  olds_apart = pairs_back (λ a b. a ≢ b) (map target_of cuts) (map old_of cuts) placed.new.apart

  -- a net of f is no target, and the old name of a cut only if it is cut and no output
  pub no_target : (name : List ℕ) → Contains (names f) name → Contains (map target_of cuts) name → ⊥
  no_target name net c =
      let (cut, member, same) = map-Contains target_of cuts name c in
      All-contains (λ c. Contains (names f) c.target → ⊥) cuts cut placed.new.fresh member (subst (Contains (names f)) (sym same) net)

  pub old_is_wire : (name : List ℕ) → Contains (names f) name → Contains (map old_of cuts) name → Contains (map net_of cuts) name × (Contains f.outputs name → ⊥)
  old_is_wire name net c =
      let (cut, member, same) = map-Contains old_of cuts name c in
      let named = All-contains (IsOldName f) cuts cut placed.new.olds member in
      elim (cases_member f.outputs cut.net) [
        | inl port ↦ absurd (named.port port (subst (Contains (names f)) (sym same) net))
        | inr wire ↦
            let here : cut.net ≡ name = sym (named.wire wire) ∙ same in
            (subst (Contains (map net_of cuts)) here (Contains-map net_of cuts cut member), λ output. wire (subst (Contains f.outputs) (sym here) output))
      ]

-- an input isn't cut
pub input_uncut : (f : Circuit) → IsSound f → (cuts : List Cut) → ArePlaced f cuts → (name : List ℕ) → Contains f.inputs name → Contains (map net_of cuts) name → ⊥
input_uncut f sound cuts placed name input c =
    let (cut, member, same) = map-Contains net_of cuts name c in
    sound.inputs_free name input (subst (IsDriven f) same (All-contains (λ c. IsDriven f c.net) cuts cut placed.driven member))

-- what is picked of the cut of a net, and of a net that isn't cut
pub picked_cut : (pick : Cut → List ℕ) (cuts : List Cut) (c : Cut) (name : List ℕ) → AllPairs (λ a b. a ≢ b) (map net_of cuts) → Contains cuts c → c.net ≡ name → chosen_by net_of pick cuts name name ≡ pick c
picked_cut pick cuts c name apart member same =
    ap (λ n. chosen_by net_of pick cuts n n) (sym same) ∙ picked_at net_of pick cuts c c.net apart member

-- one more cut that isn't of the name
pub not_more : (cuts : List Cut) (k : ℕ) (d : Cut) (name : List ℕ) → k < length cuts → ((get_or cuts k d).net ≡ name → ⊥) → (Contains (map net_of (take k cuts)) name → ⊥) → Contains (map net_of (take (k + 1) cuts)) name → ⊥
not_more cuts k d name within differ none c =
    elim (Contains-append_cases (map net_of (take k cuts)) ((get_or cuts k d).net ∷ []) name (subst (λ list. Contains list name) (map_more net_of cuts k d within) c)) [
      | inl front ↦ none front
      | inr last ↦ differ (only_one (get_or cuts k d).net name last)
    ]
