-- Marks of nets, and behind which targets nets lie.
use Rattle.std.proofs.Common.{◌≡◌, ◌↔◌, ℕ, ◌<◌, ◌≤◌, Bool, true, not, List, [], ◌∷◌, ◌++◌, Some, length, get_or, take, sym, ◌∙◌, ap, subst, inl, inr, arith}
use Rattle.std.specs.List.{Contains, IsDistinct, slice_get}
use Rattle.std.specs.Str.{bytes_eq}
use Rattle.std.proofs.Math.Seq.{take-append_seam}
use Rattle.std.proofs.lemmas.Bool.{false_from_ne_true, true≢false}
use Rattle.std.proofs.lemmas.List.Elements.{All-contains}
use Rattle.std.proofs.lemmas.Option.{slice_get-get_or}
use Rattle.eco_lists.proofs.Members.{Contains-map, map-Contains}
use Rattle.eco_meaning.specs.Circuit.{Circuit, names, IsTarget, AreTargets}
use Rattle.eco_meaning.specs.Patch.{IsBehindOnly, OfTarget}
use Rattle.eco_gates.specs.declared.gate.NetId.{NetId}
use Rattle.eco_netlist.specs.Behind.{AreLastTargets}
use Rattle.eco_netlist.specs.Netlists.{name_at, names_at, AreNets, IsChecked}
use Rattle.eco_netlist.proofs.FanNames.{net_injective}
use Rattle.eco_netlist.proofs.MisfitLemmas.{signal_cases}
use Rattle.eco_query.specs.Candidates.{IsOpen}

-- a net whose name is that of one of these is one of them
pub named_among : (list : List (List ℕ)) (nets : List NetId) (net : NetId) → IsDistinct bytes_eq list → AreNets list nets → net.0 < length list → Contains (names_at list nets) (name_at list net.0) → Contains nets net
named_among list nets net distinct are within c =
    let other = map-Contains (λ (n : NetId). name_at list n.0) nets (name_at list net.0) c in
    let below = All-contains (λ (n : NetId). n.0 < length list) nets other.0 are other.1 in
    subst (λ (n : NetId). Contains nets n) (net_injective list other.0 net distinct below within other.2) other.1

-- the number that is read for a net is at most i exactly where the net lies behind no target but the first i
pub behind_first : (f : Circuit) (lasts : List ℕ) (i net last : ℕ) → AreLastTargets f lasts → net < length (names f) → last ≡ get_or lasts net last → OfTarget f i (λ earlier target. (last ≤ i) ↔ IsBehindOnly f earlier (name_at (names f) net))
behind_first f lasts i net last are within read = λ before target behind targets place.
    let count = are.count in
    let at : slice_get lasts net ≡ Some last = slice_get-get_or lasts net last (omega arith) ∙ ap Some (sym read) in
    let name = name_at (names f) net in
    let here : slice_get (names f) net ≡ Some name = slice_get-get_or (names f) net [] within in
    let front : take i (before ++ target ∷ behind) ≡ before =
    ap (λ (k : ℕ). take k (before ++ target ∷ behind)) (sym place) ∙ take-append_seam before (target ∷ behind) in
    subst (λ (earlier : List (List ℕ)). (last ≤ i) ↔ IsBehindOnly f earlier name) front
    (are.behind (before ++ target ∷ behind) targets net name here last at i)

-- the nets of the targets are those whose names are targets
pub is_target-by_net : (f : Circuit) (targets : List NetId) (net : NetId) → IsChecked f → AreTargets f (names_at (names f) targets) → AreNets (names f) targets → net.0 < length (names f) → Contains targets net ↔ IsTarget f (name_at (names f) net.0)
is_target-by_net f targets net checked are nets within = (
  λ c. All-contains (IsTarget f) (names_at (names f) targets) (name_at (names f) net.0) are.sound (Contains-map (λ (n : NetId). name_at (names f) n.0) targets net c),
  λ is. named_among (names f) targets net checked.distinct nets within (are.complete (name_at (names f) net.0) is),
)

-- a net that lies behind no target but the earlier ones is open where it is no target
pub open_behind : (f : Circuit) (earlier : List (List ℕ)) (name : List ℕ) (is_target : Bool) → Contains (names f) name → (is_target ≡ true) ↔ IsTarget f name → IsBehindOnly f earlier name → (not is_target ≡ true) ↔ IsOpen f earlier name
open_behind f earlier name is_target net says apart = (
  λ no. (
    elim (signal_cases f name) [
      | inl signal ↦ signal
      | inr free ↦ let yes : is_target ≡ true = says.1 record { net = net; free = free } in absurd (true≢false (sym no ∙ ap not yes))
    ],
    apart,
  ),
  λ is. ap not (false_from_ne_true is_target (λ yes. (says.0 yes).free is.0)),
)
