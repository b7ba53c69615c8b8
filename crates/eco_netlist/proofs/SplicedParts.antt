-- The parts of a netlist with a patch in it, by the numbers of nets.
use Rattle.std.proofs.Common.{◌≡◌, ℕ, ◌+◌, ◌<◌, List, [], ◌∷◌, ◌++◌, Some, get_or, length, map, take, drop, refl, sym, ◌∙◌, ap, subst, append_assoc}
use Rattle.std.specs.Prelude.{All, Contains, slice_get}
use Rattle.std.proofs.lemmas.List.{length-map, length-append, map-append, drop-map, drop_at, take_more, get_or_default}
use Rattle.std.proofs.lemmas.List.Elements.{All-append, All-map, All-weaker}
use Rattle.std.proofs.lemmas.Option.{get_or_from_slice_get}
use Rattle.eco_lists.proofs.Places.{Contains_at, All_from_places}
use Rattle.eco_meaning.specs.Circuit.{Circuit, names, AreTargets}
use Rattle.eco_meaning.specs.Patch.{Fits, splice_of}
use Rattle.eco_gates.specs.declared.gate.NetId.{NetId}
use Rattle.eco_gates.specs.declared.gate.Term.{Term}
use Rattle.eco_gates.specs.declared.gate.Term.TheVariants.{Zero, One, Net}
use Rattle.eco_gates.specs.GateValue.{GateValue}
use Rattle.eco_gates.specs.Gates.{IsTermBelow, IsGateWithin, IsWithin}
use Rattle.eco_netlist.specs.Drafted.{Extends}
use Rattle.eco_netlist.specs.Netlists.{name_at, names_at, named_gate, AreNets, AreGates}
use Rattle.eco_netlist.specs.Numbering.{term_at, gate_at}
use Rattle.eco_netlist.proofs.DraftedLemmas.{AreNets-longer, IsWithin-longer, names_at-longer, named_gates-longer}
use Rattle.eco_netlist.proofs.MisfitLemmas.{targets_unique}
use Rattle.eco_netlist.proofs.PlacedLemmas.{gates_placed}
use Rattle.eco_netlist.proofs.Spliced.{net_of_patch}
use Rattle.eco_netlist.proofs.SplicedLoops.{IsFitting}

-- the nets are those of f, with the wires of p behind them
pub names_spliced : (f p : Circuit) → names f ++ p.wires ≡ names (splice_of f p)
names_spliced f p = append_assoc f.ports f.wires p.wires

pub longer_spliced : (f p : Circuit) → Extends (names f) (names (splice_of f p))
longer_spliced f p = (p.wires, sym (names_spliced f p))

-- a gate over the places of a list, with the nets at these places
term_moved : (list : List (List ℕ)) (nets : List NetId) (t : Term) → AreNets list nets → IsTermBelow (length nets) t → IsTermBelow (length list) (term_at nets t)
term_moved list nets Zero within below = tt
term_moved list nets One within below = tt
term_moved list nets (Net place) within below = within place.0 (record { 0 = 0 }) below

gate_moved : (list : List (List ℕ)) (nets : List NetId) (g : GateValue) → AreNets list nets → IsGateWithin (length nets) g → IsGateWithin (length list) (gate_at nets g)
gate_moved list nets g within is = record {
  out = within g.out.0 (record { 0 = 0 }) is.out;
  ins = All-map (IsTermBelow (length list)) (term_at nets) g.ins
      (All-weaker (IsTermBelow (length nets)) (λ t. IsTermBelow (length list) (term_at nets t)) (λ t below. term_moved list nets t within below) g.ins is.ins);
  kind = rw length-map is.kind;
}

-- the gates of both
pub gates_spliced : (f p : Circuit) (nets : List NetId) (own added all : List GateValue) → AreGates f own → AreGates p added → names_at (names (splice_of f p)) nets ≡ names p → AreNets (names (splice_of f p)) nets → all ≡ own ++ map (gate_at nets) added → AreGates (splice_of f p) all
gates_spliced f p nets own added all of_f of_p placed within is =
    let list : List (List ℕ) = names (splice_of f p) in
    let count : length nets ≡ length (names p) = rw length-map at (ap length placed) in
    let inside : IsWithin (length nets) added = subst (λ (n : ℕ). IsWithin n added) (sym count) of_p.within in
    let grown : Extends (names f) list = longer_spliced f p in
    let moved : map (named_gate list) (map (gate_at nets) added) ≡ p.gates =
    sym (gates_placed list nets (map (gate_at nets) added) added inside refl) ∙ ap (λ (l : List (List ℕ)). map (named_gate l) added) placed ∙ of_p.named in
    subst (λ (gates : List GateValue). AreGates (splice_of f p) gates) (sym is) record {
      named = map-append (named_gate list) own (map (gate_at nets) added)
          ∙ ap (λ l. l ++ map (named_gate list) (map (gate_at nets) added)) (named_gates-longer (names f) list own grown of_f.within ∙ of_f.named)
          ∙ ap (λ l. f.gates ++ l) moved;
      within = All-append (IsGateWithin (length list)) own (map (gate_at nets) added) (IsWithin-longer (names f) list own grown of_f.within)
          (All-map (IsGateWithin (length list)) (gate_at nets) added
          (All-weaker (IsGateWithin (length nets)) (λ g. IsGateWithin (length list) (gate_at nets g)) (λ g is. gate_moved list nets g within is) added inside));
    }

-- the targets behind those that p drives are those that it leaves
pub targets_left : (f p : Circuit) (later : List (List ℕ)) (targets : List NetId) → Fits f p later → AreTargets f (names_at (names f) targets) → names_at (names f) (drop (length p.outputs) targets) ≡ later
targets_left f p later targets fits are =
    sym (drop-map (λ (net : NetId). name_at (names f) net.0) (length p.outputs) targets)
    ∙ ap (drop (length p.outputs)) (targets_unique f (names_at (names f) targets) (p.outputs ++ later) are fits.drives)
    ∙ drop_at p.outputs later (length p.outputs) refl

-- there are as many
pub targets_enough : (f p : Circuit) (later : List (List ℕ)) (targets : List NetId) → Fits f p later → AreTargets f (names_at (names f) targets) → length targets ≡ length p.outputs + length later
targets_enough f p later targets fits are =
    let same = ap length (targets_unique f (names_at (names f) targets) (p.outputs ++ later) are fits.drives) in
    simp (length-map, length-append) at same

-- nets of f by their names are nets of the two by the same names
pub named_longer : (f p : Circuit) (nets now : List NetId) (list : List (List ℕ)) → nets ≡ now → AreNets (names f) now → names_at (names f) now ≡ list → names_at (names (splice_of f p)) nets ≡ list
named_longer f p nets now list is within named =
    ap (names_at (names (splice_of f p))) is ∙ names_at-longer (names f) (names (splice_of f p)) now (longer_spliced f p) within ∙ named

pub nets_longer : (f p : Circuit) (nets now : List NetId) → nets ≡ now → AreNets (names f) now → AreNets (names (splice_of f p)) nets
nets_longer f p nets now is within =
    subst (λ (l : List NetId). AreNets (names (splice_of f p)) l) (sym is) (AreNets-longer (names f) (names (splice_of f p)) now (longer_spliced f p) within)

-- one more place
pub places_more : (keys list : List (List ℕ)) (places new : List NetId) (i : ℕ) (name : List ℕ) (net : NetId) → i < length list → name ≡ get_or list i name → slice_get keys net.0 ≡ Some name → names_at keys places ≡ take i list → new ≡ places ++ net ∷ [] → names_at keys new ≡ take (i + 1) list
places_more keys list places new i name net lt is at so_far e =
    let here : get_or list i [] ≡ name = get_or_default list i [] name lt ∙ sym is in
    let named : name_at keys net.0 ≡ name = get_or_from_slice_get keys net.0 name [] at in
    ap (names_at keys) e ∙ map-append (λ (n : NetId). name_at keys n.0) places (net ∷ [])
    ∙ ap (λ l. l ++ name_at keys net.0 ∷ []) so_far ∙ ap (λ n. take i list ++ n ∷ []) (named ∙ sym here) ∙ sym (take_more list i [] lt)

-- the names of the patch are names of the two
pub names_there : (f p : Circuit) (later : List (List ℕ)) → IsFitting f p later → All (Contains (names (splice_of f p))) (names p)
names_there f p later is =
    All_from_places (Contains (names (splice_of f p))) (names p) (λ k name at. net_of_patch f p later is name (Contains_at (names p) k name at))
