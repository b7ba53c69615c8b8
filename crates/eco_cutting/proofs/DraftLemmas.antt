-- Drafts with more declarations.
use Rattle.std.proofs.Common.{◌≡◌, ℕ, ◌+◌, ◌<◌, List, [], ◌∷◌, ◌++◌, map, take, length, get_or, append_assoc, sym, ◌∙◌, ap}
use Rattle.std.proofs.lemmas.List.{map_more, map-append}
use Rattle.eco_meaning.specs.Circuit.{Circuit, NamedGate}
use Rattle.eco_gates.specs.declared.gate.NetId.{NetId}
use Rattle.eco_netlist.specs.Draft.{Declared}
use Rattle.eco_netlist.specs.Netlists.{names_at}
use Rattle.eco_netlist.proofs.NetNames.{names_at_more}
use Rattle.std.specs.List.{slice_get}
use Rattle.std.specs.Str.{bytes_eq}
use Rattle.std.proofs.Common.{inl, inr, Some, false, filter}
use Rattle.std.proofs.lemmas.Bool.{false_from_ne_true, false≢true}
use Rattle.std.proofs.lemmas.List.Elements.{Contains-append_cases}
use Rattle.eco_lists.proofs.Members.{some_passes, passes_any, only_one}
use Rattle.eco_lists.proofs.Names.{same_name}
use Rattle.eco_meaning.specs.Names.{has}
use Rattle.eco_netlist.specs.Plain.{as_declared}
use Rattle.eco_cutting.specs.Cuts.{Cut, cut_gate, port_gate, cut_of}

abbrev pub with_gates : Declared → List NamedGate → Declared
with_gates d list = record d { gates = list }

-- one more image of an image behind a list
pub gates_more : {X Y Z : Type 0} (f : X → Y) (g : Y → Z) (before : List Z) (xs : List X) (k : ℕ) (d : X) → k < length xs → (before ++ map g (map f (take k xs))) ++ g (f (get_or xs k d)) ∷ [] ≡ before ++ map g (map f (take (k + 1) xs))
gates_more f g before xs k d within =
    append_assoc before (map g (map f (take k xs))) (g (f (get_or xs k d)) ∷ [])
    ∙ ap (λ rest. before ++ rest) (sym (ap (map g) (map_more f xs k d within) ∙ map-append g (map f (take k xs)) (f (get_or xs k d) ∷ [])))

-- one more name of a net behind a list
pub names_more : (list before : List (List ℕ)) (nets : List NetId) (k : ℕ) (d : NetId) (name : List ℕ) → k < length nets → slice_get list (get_or nets k d).0 ≡ Some name → (before ++ names_at list (take k nets)) ++ name ∷ [] ≡ before ++ names_at list (take (k + 1) nets)
names_more list before nets k d name within at =
    append_assoc before (names_at list (take k nets)) (name ∷ []) ∙ ap (λ rest. before ++ rest) (sym (names_at_more list nets k d name within at))

abbrev pub with_header : Declared → List (List ℕ) → Declared
with_header d list = record d { header = list }

abbrev pub with_inputs : Declared → List (List ℕ) → Declared
with_inputs d list = record d { inputs = list }

abbrev pub with_outputs : Declared → List (List ℕ) → Declared
with_outputs d list = record d { outputs = list }

abbrev pub with_wires : Declared → List (List ℕ) → Declared
with_wires d list = record d { wires = list }

-- one more name that isn't this one
pub has_more : (list : List (List ℕ)) (name other : List ℕ) → has list name ≡ false → (other ≡ name → ⊥) → has (list ++ other ∷ []) name ≡ false
has_more list name other before differ =
    false_from_ne_true (has (list ++ other ∷ []) name) (λ e.
    let (x, c, same) = some_passes (bytes_eq name) (list ++ other ∷ []) e in
    elim (Contains-append_cases list (other ∷ []) x c) [
      | inl front ↦ false≢true (sym before ∙ passes_any (bytes_eq name) list x front same)
      | inr last ↦ differ (only_one other x last ∙ sym (same_name name x same))
    ])

-- a draft to which the netlist with the cuts was added
abbrev pub grown : Circuit → List Cut → Declared → Declared
grown f cuts d = record {
  title = d.title;
  header = d.header ++ f.ports;
  inputs = d.inputs ++ f.inputs;
  outputs = d.outputs ++ f.outputs;
  wires = ((d.wires ++ f.wires) ++ map (λ (c : Cut). c.target) cuts) ++ map (λ (c : Cut). c.old) (filter (λ (c : Cut). has f.outputs c.net) cuts);
  gates = (d.gates ++ map (cut_gate cuts) f.gates) ++ map port_gate (filter (λ (c : Cut). has f.outputs c.net) cuts);
}

-- an empty draft spells it out then
pub grown_is_cut : (f : Circuit) (cuts : List Cut) (old new : Declared) → old ≡ record { title = f.title; header = []; inputs = []; outputs = []; wires = []; gates = [] } → new ≡ grown f cuts old → as_declared new ≡ cut_of f cuts
grown_is_cut f cuts old new empty is =
    ap as_declared is ∙ ap (λ (d : Declared). as_declared (grown f cuts d)) empty
    ∙ ap (λ list. let n : Circuit = record (cut_of f cuts) { wires = list } in n)
    (append_assoc f.wires (map (λ (c : Cut). c.target) cuts) (map (λ (c : Cut). c.old) (filter (λ (c : Cut). has f.outputs c.net) cuts)))
