-- The gates that were cut rectify the implementation: with their values at the targets it is the whole netlist.
use Rattle.std.proofs.Common.{◌≡◌, ℕ, ◌+◌, ◌-◌, ◌<◌, Bool, false, cond, inl, inr, List, [], ◌∷◌, Some, None, Option, get_or, map, refl, sym, ◌∙◌, ap, subst, arith}
use Rattle.std.specs.List.{range_with_len}
use Rattle.std.proofs.lemmas.Bool.{cases_lt}
use Rattle.std.proofs.lemmas.List.{length-map}
use Rattle.std.proofs.lemmas.List.FromFn.{get_or-map-range_with_len}
use Rattle.eco_lists.proofs.Members.{Contains_none, map-map}
use Rattle.eco_lists.proofs.Places.{Contains_at, map_agree}
use Rattle.eco_laws.proofs.Filled.{can_be_filled}
use Rattle.eco_laws.proofs.Sources.{by_targets}
use Rattle.eco_meaning.specs.Names.{has}
use Rattle.eco_meaning.specs.Gates.{apply}
use Rattle.eco_meaning.specs.Circuit.{NamedGate, Values, value_of, IsConsistent}
use Rattle.eco_meaning.specs.Meaning.{IsRight, IsRectifiable, everywhere}
use Rattle.eco_netlist.specs.Netlists.{bit_of}
use Rattle.eco_netlist.proofs.NameSets.{has-from_Contains, has-from_absent}
use Rattle.eco_netlist.proofs.SoundNetlists.{sound_netlist}
use Rattle.eco_netlist.proofs.ValueLemmas.{map-bit_of}
use Rattle.eco_gen.specs.declared.TheConstants.{INPUTS}
use Rattle.eco_gen.specs.Cutting.{MayCut}
use Rattle.eco_gen.specs.Drawn.{cut_gate, gate_kind, first_signal, second_signal, target_at, unread_gates, input_name, output_name, gate_name, target_name, name_behind, signal_name, drawn_gate, port_gate, drawn_netlist}
use Rattle.eco_gen.proofs.Checked.{checked, distinct_targets, inputs_once}
use Rattle.eco_gen.proofs.Cuts.{none_cut, target_cuts}
use Rattle.eco_gen.proofs.Names.{letter, signal_low, signal_high}
use Rattle.eco_gen.proofs.Pairs.{IsClosed-drawn}
use Rattle.eco_gen.proofs.Ranges.{image_in, from_image}
use Rattle.eco_gen.proofs.Structure.{IsGateOf, kept, port, gate_is, kept_gate_in, port_gate_in, output_net}
use Rattle.eco_gen.proofs.Targets.{input_is, input_of, output_is}

-- the whole netlist may be drawn where a cut one may
whole : (size targets : ℕ) → MayCut size targets → MayCut size 0
whole size targets may = record { few_gates = may.few_gates; few_targets = omega arith; room = omega arith }

module _ (seed size targets : ℕ) (may : MayCut size targets) (u : Values) where
  abbrev cut_names : List (List ℕ)
  cut_names = map target_name (range_with_len 0 targets)

  -- the values of the gates that the targets cut
  abbrev cut_value : ℕ → Bool
  cut_value i = u (gate_name (cut_gate size targets i))

  abbrev cut_bits : List Bool
  cut_bits = map cut_value (range_with_len 0 targets)

  -- the values of the whole netlist, and at the targets those of the gates that they cut
  abbrev given : Values
  given name = cond (has cut_names name) (bit_of cut_names cut_bits name) (u name)

  at_target : (i : ℕ) → i < targets → given (target_name i) ≡ u (gate_name (cut_gate size targets i))
  at_target i lt =
      let bits = map-bit_of cut_names cut_bits (distinct_targets targets (omega (arith, may.few_targets))) (length-map (range_with_len 0 targets) cut_value ∙ sym (length-map (range_with_len 0 targets) target_name)) in
      let here : get_or (map (bit_of cut_names cut_bits) cut_names) i false ≡ get_or cut_bits i false = ap (λ (bs : List Bool). get_or bs i false) bits in
      let left : get_or (map (bit_of cut_names cut_bits) cut_names) i false ≡ bit_of cut_names cut_bits (target_name i) =
      ap (λ (bs : List Bool). get_or bs i false) (map-map target_name (bit_of cut_names cut_bits) (range_with_len 0 targets))
      ∙ get_or-map-range_with_len (λ k. bit_of cut_names cut_bits (target_name k)) 0 targets i i false lt (omega arith) in
      let right : get_or cut_bits i false ≡ cut_value i = get_or-map-range_with_len cut_value 0 targets i i false lt (omega arith) in
      let member = has-from_Contains cut_names (target_name i) (image_in target_name targets i lt) in
      ap (λ b. cond b (bit_of cut_names cut_bits (target_name i)) (u (target_name i))) member ∙ (sym left ∙ here ∙ right)

  elsewhere : (name : List ℕ) → ((i : ℕ) → name ≡ target_name i → ⊥) → given name ≡ u name
  elsewhere name other =
      let absent = has-from_absent cut_names name (λ c. let found = from_image target_name targets name c in other found.0 (sym found.2)) in
      ap (λ b. cond b (bit_of cut_names cut_bits name) (u name)) absent

  at_input : (k : ℕ) → given (input_name k) ≡ u (input_name k)
  at_input k = elsewhere (input_name k) (λ i e. let same : 120 ≡ 116 = ap letter e in omega (arith, same))

  at_output : (m : ℕ) → given (output_name m) ≡ u (output_name m)
  at_output m = elsewhere (output_name m) (λ i e. let same : 121 ≡ 116 = ap letter e in omega (arith, same))

  at_behind : (j : ℕ) (o : Option ℕ) → target_at size targets j ≡ o → given (name_behind o j) ≡ u (gate_name j)
  at_behind j None e = elsewhere (gate_name j) (λ i same. let wrong : 103 ≡ 116 = ap letter same in omega (arith, wrong))
  at_behind j (Some i) e =
      let cuts = target_cuts size targets j i e in
      at_target i cuts.0 ∙ ap (λ k. u (gate_name k)) cuts.1

  -- each signal has the value that it has in the whole netlist
  at_signal : (k : ℕ) → given (signal_name size targets k) ≡ u (signal_name size 0 k)
  at_signal k =
      elim (cases_lt k INPUTS) [
        | inl low ↦ ap given (signal_low size targets k low) ∙ at_input k ∙ sym (ap u (signal_low size 0 k low))
        | inr high ↦
            let sum : INPUTS + (k - INPUTS) ≡ k = omega arith in
            subst (λ n. given (signal_name size targets n) ≡ u (signal_name size 0 n)) sum
            (ap given (signal_high size targets (k - INPUTS)) ∙ at_behind (k - INPUTS) (target_at size targets (k - INPUTS)) refl
            ∙ sym (ap u (signal_high size 0 (k - INPUTS) ∙ ap (λ o. name_behind o (k - INPUTS)) (none_cut size (k - INPUTS)))))
      ]

  gate_consistent : IsConsistent (drawn_netlist seed size 0) u → (g : NamedGate) → IsGateOf seed size targets g → given g.out ≡ apply g.kind (map (value_of given) g.terms)
  gate_consistent consistent g (kept j below free) =
      let first = at_signal (first_signal seed j) in
      let second = at_signal (second_signal seed j) in
      at_signal (INPUTS + j) ∙ consistent (drawn_gate seed size 0 j) (kept_gate_in seed size 0 j below (none_cut size j))
      ∙ sym (ap (λ (a : Bool). apply (gate_kind seed j) (a ∷ given (signal_name size targets (second_signal seed j)) ∷ [])) first
      ∙ ap (λ (b : Bool). apply (gate_kind seed j) (u (signal_name size 0 (first_signal seed j)) ∷ b ∷ [])) second)
  gate_consistent consistent g (port m below) =
      at_output m ∙ consistent (port_gate seed size 0 m) (port_gate_in seed size 0 m below) ∙ sym (at_signal (INPUTS + get_or (unread_gates seed size) m 0))

  consistent_given : IsConsistent (drawn_netlist seed size 0) u → IsConsistent (drawn_netlist seed size targets) given
  consistent_given consistent g c = gate_consistent consistent g (gate_is seed size targets g c)

  -- and the whole netlist has one value at each net
  right_given : IsConsistent (drawn_netlist seed size 0) u → IsRight (drawn_netlist seed size targets) (everywhere (drawn_netlist seed size 0)) given
  right_given consistent = record {
    consistent = consistent_given consistent;
    agrees = λ cared w consistent_w same name out.
        let m = output_is seed size targets name out in
        let one = by_targets (drawn_netlist seed size 0) u w [] (sound_netlist (drawn_netlist seed size 0) (checked seed size 0 (whole size targets may))) consistent consistent_w
        (λ input c.
        let k = input_is seed size 0 input c in
        subst (λ (n : List ℕ). u n ≡ w n) k.2 (sym (at_input k.0) ∙ same (input_name k.0) (input_of seed size targets k.0 k.1)))
        (λ none c. absurd (Contains_none none c))
        (output_name m.0) (output_net seed size 0 m.0 m.1)
        (λ target is fan. absurd (IsClosed-drawn seed size target is)) in
        subst (λ (n : List ℕ). given n ≡ w n) m.2 (at_output m.0 ∙ one);
  }

pub rectifiable : (seed size targets : ℕ) → MayCut size targets → IsRectifiable (drawn_netlist seed size targets) (everywhere (drawn_netlist seed size 0))
rectifiable seed size targets may x wrong =
    let I = (drawn_netlist seed size targets).inputs in
    let bits = bit_of I x in
    let G = drawn_netlist seed size 0 in
    let ready = checked seed size 0 (whole size targets may) in
    let filled = can_be_filled G bits (sound_netlist G ready) in
    let u = filled.0 in
    let image : map (given seed size targets may u) I ≡ map bits I =
    map_agree (given seed size targets may u) bits I (λ k name at.
    let found = input_is seed size targets name (Contains_at I k name at) in
    subst (λ (n : List ℕ). given seed size targets may u n ≡ bits n) found.2
    (at_input seed size targets may u found.0 ∙ filled.2 (input_name found.0) (ready.inputs_free (input_name found.0) (input_of seed size 0 found.0 found.1)))) in
    wrong.never (given seed size targets may u) (consistent_given seed size targets may u filled.1)
    (image ∙ map-bit_of I x (inputs_once seed size targets) wrong.len)
    (right_given seed size targets may u filled.1)
