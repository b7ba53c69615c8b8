-- Lists and gates by the places of nets.
use Rattle.std.proofs.Common.{◌≡◌, ℕ, ◌+◌, ◌<◌, Bool, List, [], ◌∷◌, ◌++◌, map, take, length, get_or, Some, refl, ap, ◌∙◌, sym, subst, inl, inr}
use Rattle.std.specs.Prelude.{All, Contains, filter}
use Rattle.std.specs.List.{slice_get, flat_map, IsDistinct}
use Rattle.std.specs.Str.{bytes_eq}
use Rattle.std.proofs.lemmas.List.{map-append, take_more, length-map}
use Rattle.std.proofs.lemmas.List.Elements.{All-map, Contains-append_left, Contains-append_right}
use Rattle.std.proofs.lemmas.Option.{slice_get_within, get_or_from_slice_get}
use Rattle.eco_lists.proofs.Places.{All_at, All_from_places, push_cases, map_agree, Contains_at}
use Rattle.eco_lists.proofs.Members.{map-map, Contains_later, Contains_cases, Contains_none, filter-Contains}
use Rattle.eco_gates.specs.declared.gate.NetId.{NetId}
use Rattle.eco_gates.specs.declared.gate.Term.{Term}
use Rattle.eco_gates.specs.declared.gate.Term.TheVariants.{Zero, One, Net}
use Rattle.eco_gates.specs.GateValue.{GateValue}
use Rattle.eco_gates.specs.Gates.{IsTermBelow, IsGateWithin, IsWithin}
use Rattle.eco_meaning.specs.declared.name.Operand.TheVariants as operand
use Rattle.eco_meaning.specs.Circuit.{NamedGate}
use Rattle.eco_meaning.specs.Gates.{FitsKind}
use Rattle.eco_netlist.specs.declared.draft.Declarations.{Declarations}
use Rattle.eco_netlist.specs.declared.draft.TargetRule.{TargetRule}
use Rattle.eco_netlist.specs.declared.making.Parts.{Parts}
use Rattle.eco_netlist.specs.Building.{AreParts}
use Rattle.eco_netlist.specs.Draft.{FitKinds, nets_of}
use Rattle.eco_netlist.specs.Drafted.{declared_of}
use Rattle.eco_netlist.specs.Refusals.{IsWellDeclared}
use Rattle.eco_netlist.specs.Netlists.{name_at, names_at, named_term, named_gate, AreNets}
use Rattle.eco_netlist.specs.Numbering.{term_nets, gate_nets, net_at, term_at, gate_at, ArePlaced, HasNets}
use Rattle.eco_netlist.proofs.CheckLemmas.{once_driven}
use Rattle.eco_netlist.proofs.NetNames.{name_at-names_at}

-- the net that stands at a place
pub at_place : (nets : List NetId) (place net : NetId) → slice_get nets place.0 ≡ Some net → net_at nets place ≡ net
at_place nets place net found = get_or_from_slice_get nets place.0 net (record { 0 = 0 }) found

-- one more place
pub placed_push : (nets listed places : List NetId) (place net : NetId) → ArePlaced nets listed places → slice_get nets place.0 ≡ Some net → ArePlaced nets (listed ++ net ∷ []) (places ++ place ∷ [])
placed_push nets listed places place net are found = record {
  within = All_from_places (λ (p : NetId). p.0 < length nets) (places ++ place ∷ []) (λ k p at.
      elim (push_cases places place k p at) [
        | inl old ↦ All_at (λ (q : NetId). q.0 < length nets) places k p are.within old
        | inr new ↦ subst (λ (q : NetId). q.0 < length nets) (sym new.1) (slice_get_within nets place.0 net found)
      ]);
  placed = map-append (net_at nets) places (place ∷ []) ∙ ap (λ l. l ++ net_at nets place ∷ []) are.placed ∙ ap (λ n. listed ++ n ∷ []) (at_place nets place net found);
}

pub placed_more : (nets list places : List NetId) (i : ℕ) (place d : NetId) → i < length list → ArePlaced nets (take i list) places → slice_get nets place.0 ≡ Some (get_or list i d) → ArePlaced nets (take (i + 1) list) (places ++ place ∷ [])
placed_more nets list places i place d lt are found =
    subst (λ (l : List NetId). ArePlaced nets l (places ++ place ∷ [])) (sym (take_more list i d lt)) (placed_push nets (take i list) places place (get_or list i d) are found)

-- a filter keeps what has nets
pub has_kept : (p : NetId → Bool) (nets listed : List NetId) → HasNets nets listed → HasNets nets (filter p listed)
has_kept p nets listed has net member = has net (filter-Contains p listed net member).0

-- names by places are names by numbers
pub named_placed : (keys : List (List ℕ)) (nets : List NetId) (place : NetId) → place.0 < length nets → name_at (names_at keys nets) place.0 ≡ name_at keys (net_at nets place).0
named_placed keys nets place lt = name_at-names_at keys nets place.0 (record { 0 = 0 }) lt

pub names_placed : (keys : List (List ℕ)) (nets listed places : List NetId) → ArePlaced nets listed places → names_at (names_at keys nets) places ≡ names_at keys listed
names_placed keys nets listed places are =
    map_agree (λ (p : NetId). name_at (names_at keys nets) p.0) (λ (p : NetId). name_at keys (net_at nets p).0) places
    (λ k place at. named_placed keys nets place (All_at (λ (q : NetId). q.0 < length nets) places k place are.within at))
    ∙ sym (map-map (net_at nets) (λ (n : NetId). name_at keys n.0) places)
    ∙ ap (names_at keys) are.placed

pub nets_placed : (keys : List (List ℕ)) (nets listed places : List NetId) → ArePlaced nets listed places → AreNets (names_at keys nets) places
nets_placed keys nets listed places are =
    All_from_places (λ (p : NetId). p.0 < length (names_at keys nets)) places (λ k place at.
    let lt : place.0 < length nets = All_at (λ (q : NetId). q.0 < length nets) places k place are.within at in
    rw length-map lt)

term_placed : (keys : List (List ℕ)) (nets : List NetId) (t : Term) → IsTermBelow (length nets) t → named_term (names_at keys nets) t ≡ named_term keys (term_at nets t)
term_placed keys nets Zero below = refl
term_placed keys nets One below = refl
term_placed keys nets (Net place) below = ap (λ name. operand.Named name) (named_placed keys nets place below)

gate_placed : (keys : List (List ℕ)) (nets : List NetId) (g : GateValue) → IsGateWithin (length nets) g → named_gate (names_at keys nets) g ≡ named_gate keys (gate_at nets g)
gate_placed keys nets g within =
    let out = named_placed keys nets g.out within.out in
    let ins = map_agree (named_term (names_at keys nets)) (λ t. named_term keys (term_at nets t)) g.ins
    (λ k t at. term_placed keys nets t (All_at (IsTermBelow (length nets)) g.ins k t within.ins at))
    ∙ sym (map-map (term_at nets) (named_term keys) g.ins) in
    λ i. record { kind = g.kind; out = out i; terms = ins i }

pub gates_placed : (keys : List (List ℕ)) (nets : List NetId) (gates placed : List GateValue) → IsWithin (length nets) placed → map (gate_at nets) placed ≡ gates → map (named_gate (names_at keys nets)) placed ≡ map (named_gate keys) gates
gates_placed keys nets gates placed within is =
    map_agree (named_gate (names_at keys nets)) (λ g. named_gate keys (gate_at nets g)) placed
    (λ k g at. gate_placed keys nets g (All_at (IsGateWithin (length nets)) placed k g within at))
    ∙ sym (map-map (gate_at nets) (named_gate keys) placed)
    ∙ ap (map (named_gate keys)) is

-- what a gate's inputs mention is among what the gate mentions
pub has_terms : (nets : List NetId) (g : GateValue) → HasNets nets (gate_nets g) → All (λ term. HasNets nets (term_nets term)) g.ins
has_terms nets g has =
    All_from_places (λ (t : Term). HasNets nets (term_nets t)) g.ins (λ k t at net member.
    has net (Contains_later g.out net (flat_map term_nets g.ins) (term_in g.ins t net (Contains_at g.ins k t at) member)))
  where
    term_in : (terms : List Term) (t : Term) (net : NetId) → Contains terms t → Contains (term_nets t) net → Contains (flat_map term_nets terms) net
    term_in [] t net member here = absurd (Contains_none t member)
    term_in (u ∷ terms) t net member here =
        elim (Contains_cases u t terms member) [
          | inl same ↦ Contains-append_left (term_nets u) (flat_map term_nets terms) net (subst (λ (v : Term). Contains (term_nets v) net) (sym same) here)
          | inr later ↦ Contains-append_right (term_nets u) (flat_map term_nets terms) net (term_in terms t net later here)
        ]

-- what holds of all holds with one more of which it holds
pub All_push : {X : Type 0} (P : X → Type 0) (xs : List X) (x : X) → All P xs → P x → All P (xs ++ x ∷ [])
All_push P xs x all here =
    All_from_places P (xs ++ x ∷ []) (λ k y at.
    elim (push_cases xs x k y at) [
      | inl old ↦ All_at P xs k y all old
      | inr new ↦ subst P (sym new.1) here
    ])

-- the nets and gates of declarations, numbered
pub parts_made : (rule : TargetRule) (x : Declarations) (list : List (List ℕ)) (gates : List GateValue) → IsWellDeclared rule (declared_of x) → IsDistinct bytes_eq list → list ≡ nets_of rule (declared_of x) → map (named_gate list) gates ≡ (declared_of x).gates → IsWithin (length list) gates → AreParts rule (declared_of x) list gates
parts_made rule x list gates sound distinct nets named within = record {
  sound = sound;
  fitting = subst (λ (gs : List NamedGate). FitKinds gs) named (fits list gates within);
  nets = nets;
  distinct = distinct;
  named = named;
  within = within;
  once = once_driven (declared_of x) list gates sound.driven_once named;
}
  where
    fits : (list : List (List ℕ)) (gates : List GateValue) → IsWithin (length list) gates → FitKinds (map (named_gate list) gates)
    fits list gates within =
        All-map (λ (g : NamedGate). FitsKind g.kind (length g.terms)) (named_gate list) gates (All_from_places (λ (g : GateValue). FitsKind g.kind (length (map (named_term list) g.ins))) gates (λ k g at.
        let kind = (All_at (IsGateWithin (length list)) gates k g within at).kind in
        rw length-map kind))

-- the same for parts with these names and gates
pub plain_made : (rule : TargetRule) (x : Declarations) (parts : Parts) → parts.names.keys ≡ x.names.keys → parts.gates.items ≡ x.gates.items → AreParts rule (declared_of x) x.names.keys x.gates.items → AreParts rule (declared_of x) parts.names.keys parts.gates.items
plain_made rule x parts names gates are =
    subst (λ (list : List (List ℕ)). AreParts rule (declared_of x) list parts.gates.items) (sym names)
    (subst (λ (l : List GateValue). AreParts rule (declared_of x) x.names.keys l) (sym gates) are)
