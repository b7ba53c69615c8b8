-- The fan-out by numbers and by names.
use Rattle.std.proofs.Common.{◌≡◌, ◌↔◌, ℕ, ◌<◌, inl, inr, Bool, true, eqb, List, [], Some, length, map, refl, sym, ◌∙◌, ap, subst}
use Rattle.std.specs.Bool.{Decides}
use Rattle.std.specs.List.{Any, Contains, IsDistinct, slice_get}
use Rattle.std.specs.Str.{bytes_eq}
use Rattle.std.proofs.lemmas.Bool.{cases_order, both_ways, eqb-true, eq-eqb}
use Rattle.std.proofs.lemmas.List.Elements.{All-contains}
use Rattle.std.proofs.lemmas.Map.Keys.{apart_from_distinct}
use Rattle.std.proofs.lemmas.Option.{slice_get_within, get_or_from_slice_get}
use Rattle.std.proofs.lemmas.Slice.Eq.{bytes_eq-Decides}
use Rattle.eco_lists.proofs.Members.{Contains-map, map-Contains}
use Rattle.eco_meaning.specs.declared.name.Operand.TheVariants as operand
use Rattle.eco_meaning.specs.Circuit.{Circuit, NamedGate, names, Fan}
use Rattle.eco_meaning.specs.Circuit.Fan.{itself, next}
use Rattle.eco_gates.specs.declared.gate.NetId.{NetId}
use Rattle.eco_gates.specs.declared.gate.Term.{Term}
use Rattle.eco_gates.specs.declared.gate.Term.TheVariants.{Zero, One, Net}
use Rattle.eco_gates.specs.GateValue.{GateValue}
use Rattle.eco_gates.specs.Gates.{IsWithin, IsTermBelow, IsGateWithin}
use Rattle.eco_gates.specs.Reach.{FanNet}
use Rattle.eco_gates.specs.Reach.FanNet.{itself as net_itself, next as net_next}
use Rattle.eco_netlist.specs.Netlists.{name_at, names_at, named_term, named_gate, AreNets}
use Rattle.eco_netlist.specs.declared.netlist.Netlist.TheInside.{Inside}
use Rattle.eco_netlist.specs.Numbered.{circuit_of, IsNumbered}

-- distinct names tell nets apart
pub place_injective : (list : List (List ℕ)) (a b : ℕ) → IsDistinct bytes_eq list → a < length list → b < length list → name_at list a ≡ name_at list b → a ≡ b
place_injective list a b distinct lt_a lt_b e =
    elim (cases_order a b) [
      | inl same ↦ same
      | inr o ↦ elim o [
        | inl lt ↦ absurd (both_ways (bytes_eq (name_at list a) (name_at list b)) (apart_from_distinct bytes_eq list a b [] distinct lt lt_b) ((bytes_eq-Decides (name_at list a) (name_at list b)).1 e))
        | inr gt ↦ absurd (both_ways (bytes_eq (name_at list b) (name_at list a)) (apart_from_distinct bytes_eq list b a [] distinct gt lt_a) ((bytes_eq-Decides (name_at list b) (name_at list a)).1 (sym e)))
      ]
    ]

pub net_injective : (list : List (List ℕ)) (a b : NetId) → IsDistinct bytes_eq list → a.0 < length list → b.0 < length list → name_at list a.0 ≡ name_at list b.0 → a ≡ b
net_injective list a b distinct lt_a lt_b e =
    ap (λ (n : ℕ). let net : NetId = record { 0 = n } in net) (place_injective list a.0 b.0 distinct lt_a lt_b e)

-- nets are one where their numbers are
pub net_eq-Decides : (a b : NetId) → Decides (eqb a.0 b.0) (a ≡ b)
net_eq-Decides a b =
    (λ e. ap (λ (n : ℕ). let net : NetId = record { 0 = n } in net) (eqb-true a.0 b.0 e), λ e. eq-eqb a.0 b.0 (ap (λ (net : NetId). net.0) e))

-- a fan-out by numbers is one by names
pub Fan-from_nets : (n : Circuit) (list : List (List ℕ)) (gates : List GateValue) (from : List NetId) → n.gates ≡ map (named_gate list) gates → (net : NetId) → FanNet gates from net → Any (λ source. Fan n source (name_at list net.0)) (names_at list from)
Fan-from_nets n list gates from e _ (net_itself net c) =
    let member = Contains-map (λ (m : NetId). name_at list m.0) from net c in
    (member.0, name_at list net.0, member.1, member.2, itself)
Fan-from_nets n list gates from e _ (net_next g c net reads rest) =
    let before = Fan-from_nets n list gates from e net rest in
    let within : Contains n.gates (named_gate list g) = subst (λ (l : List NamedGate). Contains l (named_gate list g)) (sym e) (Contains-map (named_gate list) gates g c) in
    (before.0, before.1, before.2, before.3, next (named_gate list g) within (name_at list net.0) (Contains-map (named_term list) g.ins (Net net) reads) before.4)

-- a term that reads a name
term_named : (list : List (List ℕ)) (t : Term) (name : List ℕ) → named_term list t ≡ operand.Named name → (net : NetId) × (t ≡ Net net) × (name_at list net.0 ≡ name)
term_named list Zero name e = cc
term_named list One name e = cc
term_named list (Net net) name e = (net, refl, cc)

-- a fan-out by names is one by numbers
pub nets_from_Fan : (n : Circuit) (list : List (List ℕ)) (gates : List GateValue) (from : List NetId) → n.gates ≡ map (named_gate list) gates → IsDistinct bytes_eq list → IsWithin (length list) gates → AreNets list from → (source : List ℕ) → Contains (names_at list from) source → (name : List ℕ) → Fan n source name → (net : NetId) → net.0 < length list → name_at list net.0 ≡ name → FanNet gates from net
nets_from_Fan n list gates from e distinct within nets source c _ itself net lt named =
    let start = map-Contains (λ (m : NetId). name_at list m.0) from source c in
    let same = net_injective list net start.0 distinct lt (All-contains (λ (m : NetId). m.0 < length list) from start.0 nets start.1) (named ∙ sym start.2) in
    net_itself net (subst (λ (m : NetId). Contains from m) (sym same) start.1)
nets_from_Fan n list gates from e distinct within nets source c _ (next h d name reads rest) net lt named =
    let found = map-Contains (named_gate list) gates h (subst (λ (l : List NamedGate). Contains l h) e d) in
    let g = found.0 in
    let term = map-Contains (named_term list) g.ins (operand.Named name) (subst (λ (x : NamedGate). Contains x.terms (operand.Named name)) (sym found.2) reads) in
    let read = term_named list term.0 name term.2 in
    let member : Contains g.ins (Net read.0) = subst (λ (t : Term). Contains g.ins t) read.1 term.1 in
    let gate_within = All-contains (IsGateWithin (length list)) gates g within found.1 in
    let low : read.0.0 < length list = All-contains (IsTermBelow (length list)) g.ins (Net read.0) gate_within.ins member in
    let before = nets_from_Fan n list gates from e distinct within nets source c name rest read.0 low read.2 in
    let same = net_injective list g.out net distinct gate_within.out lt (ap (λ (x : NamedGate). x.out) found.2 ∙ sym named) in
    subst (λ (m : NetId). FanNet gates from m) same (net_next g found.1 read.0 member before)

-- a mark at a net says that it lies in the fan-out of one of the names
marks_by_name : (n : Circuit) (list : List (List ℕ)) (gates : List GateValue) (from : List NetId) (marks : List Bool) → n.gates ≡ map (named_gate list) gates → IsDistinct bytes_eq list → IsWithin (length list) gates → AreNets list from → ((net : NetId) → (slice_get marks net.0 ≡ Some true) ↔ FanNet gates from net) → (k : ℕ) (name : List ℕ) → slice_get list k ≡ Some name → (slice_get marks k ≡ Some true) ↔ Any (λ source. Fan n source name) (names_at list from)
marks_by_name n list gates from marks e distinct within nets says k name at =
    let net : NetId = record { 0 = k } in
    let named : name_at list k ≡ name = get_or_from_slice_get list k name [] at in (
      λ marked. subst (λ (x : List ℕ). Any (λ source. Fan n source x) (names_at list from)) named (Fan-from_nets n list gates from e net ((says net).0 marked)),
      λ any. (says net).1 (nets_from_Fan n list gates from e distinct within nets any.1 (any.0, any.2, any.3) name any.4 net (slice_get_within list k name at) named),
    )

-- the same at a netlist
pub marks_of_netlist : (n : Inside) → IsNumbered n → (from : List NetId) (marks : List Bool) → AreNets (names (circuit_of n)) from → ((net : NetId) → (slice_get marks net.0 ≡ Some true) ↔ FanNet n.gates.items from net) → (k : ℕ) (name : List ℕ) → slice_get (names (circuit_of n)) k ≡ Some name → (slice_get marks k ≡ Some true) ↔ Any (λ source. Fan (circuit_of n) source name) (names_at (names (circuit_of n)) from)
marks_of_netlist n is from marks nets says =
    marks_by_name (circuit_of n) (names (circuit_of n)) n.gates.items from marks
    (ap (λ (l : List (List ℕ)). map (named_gate l) n.gates.items) (sym is.numbers))
    is.checked.distinct
    (subst (λ (l : List (List ℕ)). IsWithin (length l) n.gates.items) (sym is.numbers) is.gate_nets)
    nets says
