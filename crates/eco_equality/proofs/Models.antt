-- The models of the equality clauses read as the inputs at which an output differs, and each such input has a model.
use Rattle.std.proofs.Common.{◌≡◌, inl, inr, ℕ, ◌+◌, Bool, true, false, ◌||◌, cond, List, [], ◌∷◌, length, map, refl, sym, ◌∙◌, ap, subst, arith}
use Rattle.std.specs.List.{Contains}
use Rattle.std.proofs.lemmas.Bool.{false≢true}
use Rattle.std.proofs.lemmas.List.{length-map}
use Rattle.std.proofs.lemmas.List.Elements.{All-nil}
use Rattle.std.proofs.Math.Bool.{or-false}
use Rattle.eco_query.specs.Problem.{IsClosed}
use Rattle.eco_lists.proofs.Tests.{neither}
use Rattle.eco_lists.proofs.Members.{Contains_none, Contains_cases, map-map}
use Rattle.eco_lists.proofs.Odd.{same_bits}
use Rattle.eco_lists.proofs.Places.{map_agree, Contains_at}
use Rattle.eco_meaning.specs.Circuit.{Circuit, NamedGate, Values, names, IsConsistent, AgreeOn}
use Rattle.eco_meaning.specs.Meaning.{everywhere, IsRight, IsWrong}
use Rattle.eco_laws.proofs.Sources.{by_targets}
use Rattle.eco_laws.proofs.OneValue.{same_by_image}
use Rattle.eco_laws.proofs.Reaching.{takes_any_inputs}
use Rattle.eco_netlist.specs.Netlists.{IsChecked, bit_of}
use Rattle.eco_netlist.proofs.NameSets.{has-from_Contains}
use Rattle.eco_netlist.proofs.SoundNetlists.{sound_netlist}
use Rattle.eco_netlist.proofs.ValueLemmas.{map-bit_of}
use Rattle.eco_trace.specs.declared.clause.Lit.{Lit}
use Rattle.eco_trace.specs.Clauses.{Valuation, HoldsIn, Satisfies, truth, read}
use Rattle.eco_clauses.specs.Listing.{constant, no_clauses}
use Rattle.eco_clauses.specs.Gates.{with_gates}
use Rattle.eco_clauses.specs.Numbering.{listed_literal, new_literals}
use Rattle.eco_equality.specs.Numbering.{inner_nets, input_literal, left_literal, right_literal, net_variables}
use Rattle.eco_equality.specs.Equality.{HaveSamePorts, with_nets, with_both, with_differences, equality_of, input_literals}
use Rattle.eco_equality.proofs.Counts.{takes_gates}
use Rattle.eco_clauses.proofs.Naming.{new-map}
use Rattle.eco_equality.proofs.Numbered.{inputs_distinct, ones_within, others_within}
use Rattle.eco_lists.specs.Bits.{exactly_one}
use Rattle.eco_clauses.proofs.Bits.{holds, list_more}
use Rattle.eco_clauses.proofs.Telling.{bits_of, bits_consistent, gates_tell}
use Rattle.eco_equality.proofs.Telling.{any_differ, differences_tell}
use Rattle.eco_clauses.proofs.Extending.{IsModelled, IsValued, shows_on, gates_extended}
use Rattle.eco_equality.proofs.Extending.{differences_extended}
use Rattle.eco_equality.proofs.Base.{base, left_shown, right_shown}

-- a list of bits doesn't differ from itself
none_differ : (bits : List Bool) → any_differ bits bits ≡ false
none_differ [] = refl
none_differ (true ∷ bits) = none_differ bits
none_differ (false ∷ bits) = none_differ bits

-- and where two lists don't differ, names have the same bits
agree_from : (f g : Values) (list : List (List ℕ)) → any_differ (map f list) (map g list) ≡ false → AgreeOn list f g
agree_from f g [] e name c = absurd (Contains_none name c)
agree_from f g (x ∷ list) e name c =
    let parts = neither (exactly_one (f x) (g x)) (any_differ (map f list) (map g list)) e in
    elim (Contains_cases x name list c) [
      | inl same ↦ subst (λ y. f y ≡ g y) same (same_bits (f x) (g x) parts.0)
      | inr later ↦ agree_from f g list parts.1 name later
    ]

-- a netlist without targets has one value of each net where the inputs have the same bits
same_nets : (n : Circuit) (v u : Values) → IsChecked n → IsClosed n → IsConsistent n v → IsConsistent n u → AgreeOn n.inputs v u → (name : List ℕ) → Contains (names n) name → v name ≡ u name
same_nets n v u checked closed v_is u_is inputs name net =
    by_targets n v u [] (sound_netlist n checked) v_is u_is inputs (λ target c. absurd (Contains_none target c)) name net (λ target is fan. absurd (closed target is))

-- an input's literal is that of its place among left's inputs
left_input : (left : Circuit) (name : List ℕ) → Contains left.inputs name → left_literal left name ≡ input_literal left name
left_input left name c =
    ap (λ b. cond b (input_literal left name) (listed_literal (1 + length left.inputs) (inner_nets left) name)) (has-from_Contains left.inputs name c)

right_input : (left right : Circuit) (name : List ℕ) → Contains right.inputs name → right_literal left right name ≡ input_literal left name
right_input left right name c =
    ap (λ b. cond b (input_literal left name) (listed_literal (1 + length left.inputs + length (inner_nets left)) (inner_nets right) name)) (has-from_Contains right.inputs name c)

module _ (left right : Circuit) (ports : HaveSamePorts left right) (left_checked : IsChecked left) (right_checked : IsChecked right) (left_closed : IsClosed left) (right_closed : IsClosed right) where
  ones : List Lit
  ones = map (left_literal left) left.outputs

  others : List Lit
  others = map (right_literal left right) left.outputs

  sizes : length ones ≡ length others
  unfolding ones others
  sizes = length-map left.outputs (left_literal left) ∙ sym (length-map left.outputs (right_literal left right))

  -- the bits of the inputs' literals
  read_inputs : (v : Valuation) → read v (input_literals left) ≡ map (bits_of v (left_literal left)) left.inputs
  read_inputs v =
      map-map (input_literal left) (truth v) left.inputs
      ∙ map_agree (λ name. truth v (input_literal left name)) (bits_of v (left_literal left)) left.inputs (λ k name at. ap (truth v) (sym (left_input left name (Contains_at left.inputs k name at))))

  -- what a model says: the nets' bits are consistent, and a new variable is 1
  record IsModel (v : Valuation) : Type 0 where
    on_left : IsConsistent left (bits_of v (left_literal left))
    on_right : IsConsistent right (bits_of v (right_literal left right))
    told : any_differ (read v ones) (read v others) ≡ true

  model : (v : Valuation) → Satisfies v (equality_of left right).clauses → IsModel v
  unfolding ones others
  model v h =
      let last = (list_more v (with_differences (with_both left right) ones others) (new_literals (with_both left right).vars left.outputs)).0 h in
      let differences = differences_tell v (with_both left right) ones others sizes last.0 in
      let on_right = gates_tell v (right_literal left right) (with_gates (left_literal left) (with_nets left right) left.gates) right.gates right_checked.arities differences.0 in
      let on_left = gates_tell v (left_literal left) (with_nets left right) left.gates left_checked.arities on_right.0 in
      let start = (list_more v (no_clauses (net_variables left right)) (constant ∷ [])).0 on_left.0 in
      let one : v 1 ≡ true = sym (or-false (v 1)) ∙ start.1 in
      record {
        on_left = bits_consistent v (left_literal left) left one on_left.1;
        on_right = bits_consistent v (right_literal left right) right one on_right.1;
        told = sym differences.1 ∙ ap (holds v) (new-map (left_literal left) (with_both left right).vars left.outputs) ∙ last.1;
      }

  pub models_wrong : (v : Valuation) → Satisfies v (equality_of left right).clauses → IsWrong left (everywhere right) (read v (input_literals left))
  unfolding ones others
  models_wrong v h = record {
    len = ap length (read_inputs v) ∙ length-map left.inputs l;
    never = λ w w_is bits right_at.
        let inputs : AgreeOn left.inputs w l = same_by_image w l left.inputs (bits ∙ read_inputs v) in
        let shared : AgreeOn left.inputs w r = λ name c. inputs name c ∙ ap (truth v) (left_input left name c ∙ sym (right_input left right name ((ports.inputs name).0 c))) in
        let outputs = right_at.agrees tt r is.on_right shared in
        let same : read v ones ≡ read v others =
        map-map (left_literal left) (truth v) left.outputs
        ∙ map_agree l r left.outputs (λ k name at.
        let output = Contains_at left.outputs k name at in
        sym (same_nets left w l left_checked left_closed w_is is.on_left inputs name ((sound_netlist left left_checked).outputs name output)) ∙ outputs name output)
        ∙ sym (map-map (right_literal left right) (truth v) left.outputs) in
        false≢true (sym (ap (λ bs. any_differ bs (read v others)) same ∙ none_differ (read v others)) ∙ is.told);
  }
    where
      l : Values
      l = bits_of v (left_literal left)

      r : Values
      r = bits_of v (right_literal left right)

      is : IsModel v
      is = model v h

  -- a gate of a netlist over its nets, with its value in a consistent map
  valued : (n : Circuit) (w : Values) → IsChecked n → IsConsistent n w → (g : NamedGate) → Contains n.gates g → IsValued (names n) w g
  valued n w checked is g member = record {
    out = checked.driven_nets g member;
    reads = checked.read_nets g member;
    kind = checked.arities g member;
    value = is g member;
  }

  -- the clause of the constant holds, whatever the values of other variables are
  start_modelled : (u : Valuation) → u 1 ≡ true → IsModelled (with_nets left right) u
  start_modelled u one t agree =
      (list_more t (no_clauses (net_variables left right)) (constant ∷ [])).1 (All-nil (HoldsIn t), ap (λ b. b || false) (sym (agree 1 (omega arith)) ∙ one))

  -- values of all variables, where the nets have the bits of two consistent maps that agree at the inputs
  record IsFilled (l r : Values) : Type 0 where
    values : Valuation
    modelled : Satisfies values (with_differences (with_both left right) ones others).clauses
    told : holds values (new_literals (with_both left right).vars left.outputs) ≡ any_differ (map l left.outputs) (map r left.outputs)
    inputs : read values (input_literals left) ≡ map l left.inputs

  fill : (l r : Values) → IsConsistent left l → IsConsistent right r → AgreeOn right.inputs l r → IsFilled l r
  unfolding ones others
  fill l r l_is r_is agree =
      let nets = with_nets left right in
      let half = with_gates (left_literal left) nets left.gates in
      let both = with_both left right in
      let first = gates_extended (names left) (left_literal left) l nets left.gates (base left right l r) (valued left l left_checked l_is) (left_shown left right l r) (start_modelled (base left right l r) refl) in
      let first_more = (takes_gates (left_literal left) nets left.gates).more in
      let second_more = (takes_gates (right_literal left right) half right.gates).more in
      let right_then = shows_on (names right) (right_literal left right) nets.vars half.vars (base left right l r) first.values r first_more first.agree (right_shown left right l r ports agree) in
      let second = gates_extended (names right) (right_literal left right) r half right.gates first.values (valued right r right_checked r_is) right_then first.modelled in
      let right_now = shows_on (names right) (right_literal left right) half.vars both.vars first.values second.values r second_more second.agree right_then in
      let left_then = shows_on (names left) (left_literal left) nets.vars half.vars (base left right l r) first.values l first_more first.agree (left_shown left right l r) in
      let left_now = shows_on (names left) (left_literal left) half.vars both.vars first.values second.values l second_more second.agree left_then in
      let last = differences_extended both ones others second.values sizes (ones_within left right both ones left_checked refl refl) (others_within left right both others right_checked ports refl refl) second.modelled in
      let at_end = shows_on (names left) (left_literal left) both.vars both.vars second.values last.values l (omega arith) last.agree left_now in
      record {
        values = last.values;
        modelled = last.modelled last.values (λ k le. refl);
        told = sym (ap (holds last.values) (new-map (left_literal left) both.vars left.outputs)) ∙ last.told
            ∙ ap (λ bs. any_differ bs (read second.values others)) (map-map (left_literal left) (truth second.values) left.outputs ∙ map_agree (bits_of second.values (left_literal left)) l left.outputs (λ k name at. left_now.value name ((sound_netlist left left_checked).outputs name (Contains_at left.outputs k name at))))
            ∙ ap (any_differ (map l left.outputs)) (map-map (right_literal left right) (truth second.values) left.outputs ∙ map_agree (bits_of second.values (right_literal left right)) r left.outputs (λ k name at. right_now.value name ((sound_netlist right right_checked).outputs name ((ports.outputs name).0 (Contains_at left.outputs k name at)))));
        inputs = read_inputs last.values ∙ map_agree (bits_of last.values (left_literal left)) l left.inputs (λ k name at. at_end.value name ((sound_netlist left left_checked).inputs name (Contains_at left.inputs k name at)));
      }

  -- a consistent map whose outputs are those of right at its inputs is right
  agreed : (l r : Values) → IsConsistent left l → IsConsistent right r → AgreeOn right.inputs l r → AgreeOn left.outputs l r → IsRight left (everywhere right) l
  agreed l r l_is r_is inputs outputs = record {
    consistent = l_is;
    agrees = λ _ u u_is same name output.
        outputs name output
        ∙ same_nets right r u right_checked right_closed r_is u_is (λ input c. sym (inputs input c) ∙ same input ((ports.inputs input).1 c)) name ((sound_netlist right right_checked).outputs name ((ports.outputs name).0 output));
  }

  pub wrong_modelled : (x : List Bool) → IsWrong left (everywhere right) x → (v : Valuation) × Satisfies v (equality_of left right).clauses × (read v (input_literals left) ≡ x)
  unfolding ones others
  wrong_modelled x wrong = by (any_differ (map l left.outputs) (map r left.outputs)) refl
    where
      bits : map (bit_of left.inputs x) left.inputs ≡ x
      bits = map-bit_of left.inputs x (inputs_distinct left left_checked) wrong.len

      left_map : (w : Values) × IsConsistent left w × AgreeOn left.inputs (bit_of left.inputs x) w
      left_map = takes_any_inputs left (sound_netlist left left_checked) (bit_of left.inputs x)

      l : Values
      l = left_map.0

      right_map : (w : Values) × IsConsistent right w × AgreeOn right.inputs l w
      right_map = takes_any_inputs right (sound_netlist right right_checked) l

      r : Values
      r = right_map.0

      at_x : map l left.inputs ≡ x
      at_x = map_agree l (bit_of left.inputs x) left.inputs (λ k name at. sym (left_map.2 name (Contains_at left.inputs k name at))) ∙ bits

      all : IsFilled l r
      all = fill l r left_map.1 right_map.1 right_map.2

      by : (exactly_one : Bool) → any_differ (map l left.outputs) (map r left.outputs) ≡ exactly_one → (v : Valuation) × Satisfies v (equality_of left right).clauses × (read v (input_literals left) ≡ x)
      by true e = (
        all.values,
        (list_more all.values (with_differences (with_both left right) ones others) (new_literals (with_both left right).vars left.outputs)).1 (all.modelled, all.told ∙ e),
        all.inputs ∙ at_x,
      )
      by false e = absurd (wrong.never l left_map.1 at_x (agreed l r left_map.1 right_map.1 right_map.2 (agree_from l r left.outputs e)))
