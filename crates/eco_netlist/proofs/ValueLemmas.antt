-- Bits by the numbers of nets, and maps of names to bits.
use Rattle.std.proofs.Common.{◌≡◌, ◌≢◌, ℕ, ◌<◌, Bool, false, cond, List, [], ◌∷◌, map, length, Some, arith, refl, sym, ◌∙◌, ap, subst, inl, inr}
use Rattle.std.specs.Prelude.{Contains, option_map}
use Rattle.std.specs.List.{IsDistinct, slice_get}
use Rattle.std.specs.Str.{bytes_eq}
use Rattle.std.proofs.lemmas.Bool.{false_from_ne_true, false≢true, cases_lt}
use Rattle.std.proofs.lemmas.List.{get_or-map, length-map}
use Rattle.std.proofs.lemmas.List.Elements.{All-from_recursion}
use Rattle.std.proofs.lemmas.Map.Keys.{IsDistinct-head, IsDistinct-tail}
use Rattle.std.proofs.lemmas.Option.{slice_get-map, slice_get-get_or, slice_get_past, get_or_from_slice_get, same_Some}
use Rattle.eco_lists.proofs.Names.{bytes_eq-same, same_name}
use Rattle.eco_lists.proofs.Members.{map-map}
use Rattle.eco_meaning.specs.Gates.{apply}
use Rattle.eco_meaning.specs.Circuit.{Circuit, NamedGate, Values, names, value_of, IsConsistent, IsDriven}
use Rattle.eco_gates.specs.declared.gate.Term.{Term}
use Rattle.eco_gates.specs.declared.gate.Term.TheVariants.{Zero, One, Net}
use Rattle.eco_gates.specs.GateValue.{GateValue}
use Rattle.eco_gates.specs.Gates.{IsTermBelow, IsGateWithin, IsWithin, IsUndriven}
use Rattle.eco_gates.specs.Evaluation.{term_value, gate_value, IsConsistentAt, AgreeUndriven}
use Rattle.eco_lists.proofs.Places.{Contains_at, All_at, All_from_places, map_agree}
use Rattle.eco_netlist.specs.declared.netlist.Netlist.TheInside.{Inside}
use Rattle.eco_netlist.specs.Netlists.{name_at, named_term, named_gate, bit_of, KeepsUndriven}
use Rattle.eco_netlist.specs.Numbered.{circuit_of, IsNumbered}
use Rattle.eco_netlist.proofs.NameLemmas.{one_place, unmapped_member}

-- a circuit by the names of a list, with gates over its places
pub record IsNamed (n : Circuit) (list : List (List ℕ)) (gates : List GateValue) : Type 0 where
  pub numbers : names n ≡ list
  pub named : n.gates ≡ map (named_gate list) gates
  pub within : IsWithin (length list) gates
  pub distinct : IsDistinct bytes_eq list

-- a netlist's parts stand for its circuit
pub named_parts : (a : Inside) (n : Circuit) → circuit_of a ≡ n → IsNumbered a → IsNamed n a.names.keys a.gates.items
named_parts a n is numbered =
    subst (λ (m : Circuit). IsNamed m a.names.keys a.gates.items) is (record {
      numbers = numbered.numbers;
      named = refl;
      within = numbered.gate_nets;
      distinct = subst (λ (list : List (List ℕ)). IsDistinct bytes_eq list) numbered.numbers numbered.checked.distinct;
    })

-- the bit at a place is that of the name there
bit_at_name : (list : List (List ℕ)) (v : Values) (k : ℕ) → k < length list → slice_get (map v list) k ≡ Some (v (name_at list k))
bit_at_name list v k within = slice_get-map v list k ∙ ap (option_map v) (slice_get-get_or list k [] within)

-- a term reads the bit of its name
term_by_name : (list : List (List ℕ)) (v : Values) (t : Term) → IsTermBelow (length list) t → term_value (map v list) t ≡ value_of v (named_term list t)
term_by_name list v Zero _ = refl
term_by_name list v One _ = refl
term_by_name list v (Net net) within = get_or-map v list net.0 [] false within

-- a gate's value by the names of its nets
gate_by_name : (list : List (List ℕ)) (v : Values) (g : GateValue) → IsGateWithin (length list) g → gate_value (map v list) g ≡ apply g.kind (map (value_of v) (map (named_term list) g.ins))
gate_by_name list v g within =
    ap (apply g.kind)
    (map_agree (term_value (map v list)) (λ t. value_of v (named_term list t)) g.ins
    (λ k t at. term_by_name list v t (All_at (IsTermBelow (length list)) g.ins k t within.ins at))
    ∙ sym (map-map (named_term list) (value_of v) g.ins))

-- a gate of the list is one of the circuit's
pub named_member : (n : Circuit) (list : List (List ℕ)) (gates : List GateValue) (k : ℕ) (g : GateValue) → n.gates ≡ map (named_gate list) gates → slice_get gates k ≡ Some g → Contains n.gates (named_gate list g)
named_member n list gates k g named at =
    subst (λ (all : List NamedGate). Contains all (named_gate list g)) (sym named)
    (Contains_at (map (named_gate list) gates) k (named_gate list g)
    (slice_get-map (named_gate list) gates k ∙ ap (option_map (named_gate list)) at))

-- and the other way round
member_named : (n : Circuit) (list : List (List ℕ)) (gates : List GateValue) (g : NamedGate) → n.gates ≡ map (named_gate list) gates → Contains n.gates g → (h : GateValue) × (k : ℕ) × (slice_get gates k ≡ Some h) × (named_gate list h ≡ g)
member_named n list gates g named member =
    unmapped_member (named_gate list) gates g (subst (λ (all : List NamedGate). Contains all g) named member)

-- bits that are consistent by numbers are so by names
pub consistent_by_name : (n : Circuit) (list : List (List ℕ)) (gates : List GateValue) (v : Values) → IsNamed n list gates → IsConsistentAt gates (map v list) → IsConsistent n v
consistent_by_name n list gates v is consistent g member =
    let found = member_named n list gates g is.named member in
    let h = found.0 in
    let within : IsGateWithin (length list) h = All_at (IsGateWithin (length list)) gates found.1 h is.within found.2 in
    let bit : slice_get (map v list) h.out.0 ≡ Some (gate_value (map v list) h) =
    All_at (λ g. slice_get (map v list) g.out.0 ≡ Some (gate_value (map v list) g)) gates found.1 h consistent found.2 in
    let says : v (name_at list h.out.0) ≡ gate_value (map v list) h =
    same_Some (v (name_at list h.out.0)) (gate_value (map v list) h) (sym (bit_at_name list v h.out.0 within.out) ∙ bit) in
    subst (λ (g : NamedGate). v g.out ≡ apply g.kind (map (value_of v) g.terms)) found.3 (says ∙ gate_by_name list v h within)

-- and the other way round
consistent_by_number : (n : Circuit) (list : List (List ℕ)) (gates : List GateValue) (v : Values) → IsNamed n list gates → IsConsistent n v → IsConsistentAt gates (map v list)
consistent_by_number n list gates v is consistent =
    All_from_places (λ g. slice_get (map v list) g.out.0 ≡ Some (gate_value (map v list) g)) gates (λ k h at.
    let within : IsGateWithin (length list) h = All_at (IsGateWithin (length list)) gates k h is.within at in
    bit_at_name list v h.out.0 within.out
    ∙ ap (λ bit. Some bit) (consistent (named_gate list h) (named_member n list gates k h is.named at) ∙ sym (gate_by_name list v h within)))

-- a net is undriven by its number where its name is
pub undriven_by_number : (n : Circuit) (list : List (List ℕ)) (gates : List GateValue) (k : ℕ) (name : List ℕ) → IsNamed n list gates → slice_get list k ≡ Some name → (IsDriven n name → ⊥) → IsUndriven gates k
undriven_by_number n list gates k name is at free =
    All_from_places (λ g. g.out.0 ≢ k) gates (λ j h there same.
    free (
      named_gate list h,
      named_member n list gates j h is.named there,
      ap (name_at list) same ∙ get_or_from_slice_get list k name [] at,
    ))

undriven_by_name : (n : Circuit) (list : List (List ℕ)) (gates : List GateValue) (k : ℕ) (name : List ℕ) → IsNamed n list gates → slice_get list k ≡ Some name → IsUndriven gates k → IsDriven n name → ⊥
undriven_by_name n list gates k name is at free driven =
    let found = member_named n list gates driven.0 is.named driven.1 in
    let h = found.0 in
    let within : IsGateWithin (length list) h = All_at (IsGateWithin (length list)) gates found.1 h is.within found.2 in
    let out_name : name_at list h.out.0 ≡ name = ap (λ (g : NamedGate). g.out) found.3 ∙ driven.2 in
    let out_at : slice_get list h.out.0 ≡ Some name = slice_get-get_or list h.out.0 [] within.out ∙ ap (λ x. Some x) out_name in
    All_at (λ g. g.out.0 ≢ k) gates found.1 h free found.2 (one_place list h.out.0 k name is.distinct out_at at)

-- bits at different names are those of a map
pub map-bit_of : (list : List (List ℕ)) (bits : List Bool) → IsDistinct bytes_eq list → length bits ≡ length list → map (bit_of list bits) list ≡ bits
map-bit_of [] [] distinct same = refl
map-bit_of [] (bit ∷ bits) distinct same = absurd (omega arith)
map-bit_of (name ∷ list) [] distinct same = absurd (omega arith)
map-bit_of (name ∷ list) (bit ∷ bits) distinct same =
    let head : cond (bytes_eq name name) bit (bit_of list bits name) ≡ bit = rw (bytes_eq-same name) refl in
    let others : (k : ℕ) (x : List ℕ) → slice_get list k ≡ Some x → bit_of (name ∷ list) (bit ∷ bits) x ≡ bit_of list bits x =
    λ k x at.
    let apart : bytes_eq name x ≡ false = All_at (λ y. bytes_eq name y ≡ false) list k x (All-from_recursion (λ y. bytes_eq name y ≡ false) list (IsDistinct-head bytes_eq name list distinct)) at in
    let other : bytes_eq x name ≡ false = false_from_ne_true (bytes_eq x name) (λ e.
    let equal : x ≡ name = same_name x name e in
    false≢true (sym apart ∙ ap (bytes_eq name) equal ∙ bytes_eq-same name)) in
    ap (λ (b : Bool). cond b bit (bit_of list bits x)) other in
    ap (λ b. b ∷ map (bit_of (name ∷ list) (bit ∷ bits)) list) head
    ∙ ap (λ rest. bit ∷ rest)
    (map_agree (bit_of (name ∷ list) (bit ∷ bits)) (bit_of list bits) list others
    ∙ map-bit_of list bits (IsDistinct-tail bytes_eq name list distinct) (omega arith))

-- what the bits after `fill` are, by the names
pub record IsFilled (n : Circuit) (old new : List Bool) : Type 0 where
  pub valued : map (bit_of (names n) new) (names n) ≡ new
  pub consistent : (v : Values) → map v (names n) ≡ new → IsConsistent n v
  pub kept : (v : Values) → map v (names n) ≡ new → KeepsUndriven n v old
  pub only : (v : Values) → IsConsistent n v → KeepsUndriven n v old → map v (names n) ≡ new

-- bits that keep those of the undriven names agree at the undriven numbers
agree_from_kept : (n : Circuit) (list : List (List ℕ)) (gates : List GateValue) (v : Values) (old : List Bool) → IsNamed n list gates → length old ≡ length list → KeepsUndriven n v old → AgreeUndriven gates (map v list) old
agree_from_kept n list gates v old is same kept net free =
    elim (cases_lt net (length list)) [
      | inl below ↦
          let at : slice_get list net ≡ Some (name_at list net) = slice_get-get_or list net [] below in
          let at_name : slice_get (names n) net ≡ Some (name_at list net) = ap (λ (l : List (List ℕ)). slice_get l net) is.numbers ∙ at in
          bit_at_name list v net below
          ∙ sym (kept net (name_at list net) at_name (undriven_by_name n list gates net (name_at list net) is at free))
      | inr past ↦ slice_get_past (map v list) net (rw length-map past) ∙ sym (slice_get_past old net (rw same past))
    ]

-- what holds by the numbers of nets holds by their names
pub filled_by_name : (n : Circuit) (list : List (List ℕ)) (gates : List GateValue) (old new : List Bool) → IsNamed n list gates → length old ≡ length list → length new ≡ length old → IsConsistentAt gates new → AgreeUndriven gates new old → ((bits : List Bool) → length bits ≡ length old → IsConsistentAt gates bits → AgreeUndriven gates bits old → bits ≡ new) → IsFilled n old new
filled_by_name n list gates old new is same_old same_new consistent kept only = record {
  valued = rw is.numbers (map-bit_of list new is.distinct (same_new ∙ same_old));
  consistent = λ v e.
      let bits : new ≡ map v list = sym e ∙ ap (map v) is.numbers in
      consistent_by_name n list gates v is (subst (λ (l : List Bool). IsConsistentAt gates l) bits consistent);
  kept = λ v e k name at free.
      let here : slice_get list k ≡ Some name = ap (λ (l : List (List ℕ)). slice_get l k) (sym is.numbers) ∙ at in
      sym (kept k (undriven_by_number n list gates k name is here free))
      ∙ ap (λ (l : List Bool). slice_get l k) (sym e ∙ ap (map v) is.numbers)
      ∙ slice_get-map v list k
      ∙ ap (option_map v) here;
  only = λ v agrees keeps.
      ap (map v) is.numbers
      ∙ only (map v list) (rw length-map (sym same_old)) (consistent_by_number n list gates v is agrees)
      (agree_from_kept n list gates v old is same_old keeps);
}
