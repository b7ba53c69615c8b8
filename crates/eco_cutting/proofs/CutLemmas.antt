-- From maps of a netlist to maps of the netlist with nets cut, and back.
use Rattle.std.proofs.Common.{◌≡◌, ◌≢◌, inl, inr, ℕ, Bool, false, List, Some, length, map, filter, refl, sym, ◌∙◌, ap, subst}
use Rattle.std.specs.List.{All, AllPairs, Contains}
use Rattle.std.specs.Str.{bytes_eq}
use Rattle.std.proofs.lemmas.List.Elements.{All-contains, Contains-append_left, Contains-append_right, Contains-append_cases}
use Rattle.eco_lists.proofs.Members.{Contains-map, map-Contains, map-map, Contains-filter, filter-Contains, some_passes}
use Rattle.eco_lists.proofs.Names.{same_name}
use Rattle.eco_lists.proofs.Places.{map_agree, Contains_at, All_from_places}
use Rattle.eco_meaning.specs.declared.name.Operand.{Operand}
use Rattle.eco_meaning.specs.declared.name.Operand.TheVariants.{Zero, One, Named}
use Rattle.eco_meaning.specs.Gates.{apply}
use Rattle.eco_meaning.specs.Names.{has}
use Rattle.eco_meaning.specs.Circuit.{Circuit, NamedGate, Values, names, value_of, IsConsistent, IsDriven, AgreeOn}
use Rattle.eco_meaning.specs.Meaning.{Goal, IsWrong}
use Rattle.eco_laws.specs.Sound.{IsSound}
use Rattle.eco_laws.specs.Kept.{CaresForInputs}
use Rattle.eco_laws.proofs.Keeping.{cared_alike}
use Rattle.eco_laws.proofs.Members.{has-from_Contains}
use Rattle.eco_choices.specs.Choices.{IsConsistentBut, IsWrongBut}
use Rattle.eco_cutting.specs.Cuts.{Cut, chosen_by, read_for, driven_for, read_operand, cut_gate, port_gate, IsCut, CutIsWrongBut, CutIsRectifiable}
use Rattle.eco_cutting.proofs.CutNames.{net_of, target_of, old_of, ArePlaced, targets_apart, olds_apart, input_uncut, no_target, old_is_wire}
use Rattle.eco_cutting.proofs.Picking.{picked_at, picked_not, picked_cases, pairs_across}

-- the value of a gate where the nets have these bits
abbrev value_at : Values → NamedGate → Bool
value_at v g = apply g.kind (map (value_of v) g.terms)

module _ (f : Circuit) (goal : Goal) (nets : List (List ℕ)) (m : Circuit) (sound : IsSound f) (cares : CaresForInputs f goal) (once : AllPairs (λ a b. a ≢ b) nets) (driven : All (IsDriven f) nets) (is : IsCut f nets m) where
  abbrev cuts : List Cut
  cuts = is.cuts

  placed : ArePlaced f cuts
  placed = record {
    once = subst (AllPairs (λ a b. a ≢ b)) (sym is.named) once;
    driven = All_from_places (λ c. IsDriven f c.net) cuts (λ k c at.
        All-contains (IsDriven f) nets c.net driven (subst (λ list. Contains list c.net) is.named (Contains-map net_of cuts c (Contains_at cuts k c at))));
    new = is.new;
  }

  uncut_from : (name : List ℕ) → (Contains nets name → ⊥) → Contains (map net_of cuts) name → ⊥
  uncut_from name none c = none (subst (λ list. Contains list name) is.named c)

  -- the gates of m: those of f with the cuts, and those of ports
  gate_member : (g : NamedGate) → Contains f.gates g → Contains m.gates (cut_gate cuts g)
  gate_member g member =
      subst (λ gates. Contains gates (cut_gate cuts g)) (sym is.gates)
      (Contains-append_left (map (cut_gate cuts) f.gates) (map port_gate (filter (λ c. has f.outputs c.net) cuts)) (cut_gate cuts g) (Contains-map (cut_gate cuts) f.gates g member))

  port_member : (c : Cut) → Contains cuts c → Contains f.outputs c.net → Contains m.gates (port_gate c)
  port_member c member output =
      subst (λ gates. Contains gates (port_gate c)) (sym is.gates)
      (Contains-append_right (map (cut_gate cuts) f.gates) (map port_gate (filter (λ c. has f.outputs c.net) cuts)) (port_gate c)
      (Contains-map port_gate (filter (λ c. has f.outputs c.net) cuts) c (Contains-filter (λ c. has f.outputs c.net) cuts c member (has-from_Contains f.outputs c.net output))))

  -- back: each name has the bit of what is read in its place
  module _ (u : Values) (u_is : IsConsistent m u) where
    abbrev back : Values
    back name = u (read_for cuts name)

    back_term : (term : Operand) → value_of u (read_operand cuts term) ≡ value_of back term
    back_term Zero = refl
    back_term One = refl
    back_term (Named name) = refl

    back_uncut : (name : List ℕ) → (Contains (map net_of cuts) name → ⊥) → back name ≡ u name
    back_uncut name none = ap u (picked_not net_of target_of cuts name name none)

    back_consistent : IsConsistentBut f nets back
    back_consistent g member free =
        let none = uncut_from g.out free in
        back_uncut g.out none ∙ sym (ap u (picked_not net_of old_of cuts g.out g.out none))
        ∙ u_is (cut_gate cuts g) (gate_member g member)
        ∙ ap (apply g.kind) (map-map (read_operand cuts) (value_of u) g.terms ∙ map_agree (λ t. value_of u (read_operand cuts t)) (value_of back) g.terms (λ k t at. back_term t))

    back_inputs : AgreeOn f.inputs back u
    back_inputs name input = back_uncut name (input_uncut f sound cuts placed name input)

    back_outputs : AgreeOn f.outputs back u
    back_outputs name output =
        elim (picked_cases net_of cuts name) [
          | inr none ↦ back_uncut name none
          | inl some ↦
              let (c, member, same) = some in
              let port : u c.net ≡ u c.target = u_is (port_gate c) (port_member c member (subst (Contains f.outputs) (sym same) output)) in
              sym (ap back same) ∙ ap u (picked_at net_of target_of cuts c c.net placed.once member) ∙ sym port ∙ ap u same
        ]

  -- there: targets have the bits of their nets, old names the values of their nets' gates, and all else its own bit
  module _ (v : Values) (v_is : IsConsistentBut f nets v) where
    abbrev own : List ℕ → Bool
    own net = chosen_by (λ (g : NamedGate). g.out) (value_at v) f.gates net false

    abbrev there : Values
    there name = chosen_by target_of (λ c. v c.net) cuts name (chosen_by old_of (λ c. own c.net) cuts name (v name))

    there_kept : (name : List ℕ) → Contains (names f) name → (Contains (map old_of cuts) name → ⊥) → there name ≡ v name
    there_kept name net other =
        picked_not target_of (λ c. v c.net) cuts name (chosen_by old_of (λ c. own c.net) cuts name (v name)) (no_target f cuts placed name net)
        ∙ picked_not old_of (λ c. own c.net) cuts name (v name) other

    there_uncut : (name : List ℕ) → Contains (names f) name → (Contains (map net_of cuts) name → ⊥) → there name ≡ v name
    there_uncut name net none = there_kept name net (λ c. none (old_is_wire f cuts placed name net c).0)

    there_inputs : AgreeOn f.inputs v there
    there_inputs name input = sym (there_uncut name (sound.inputs name input) (input_uncut f sound cuts placed name input))

    there_outputs : AgreeOn f.outputs v there
    there_outputs name output =
        let net = sound.outputs name output in
        sym (there_kept name net (λ c. (old_is_wire f cuts placed name net c).1 output))

    there_target : (c : Cut) → Contains cuts c → there c.target ≡ v c.net
    there_target c member =
        picked_at target_of (λ c. v c.net) cuts c (chosen_by old_of (λ c. own c.net) cuts c.target (v c.target)) (targets_apart f cuts placed) member

    there_old : (c : Cut) → Contains cuts c → there c.old ≡ own c.net
    there_old c member =
        picked_not target_of (λ c. v c.net) cuts c.old (chosen_by old_of (λ c. own c.net) cuts c.old (v c.old))
        (λ has_target. pairs_across (λ a b. a ≢ b) (map target_of cuts) (map old_of cuts) c.old c.old is.new.apart has_target (Contains-map old_of cuts c member) refl)
        ∙ picked_at old_of (λ c. own c.net) cuts c (v c.old) (olds_apart f cuts placed) member

    there_read : (name : List ℕ) → Contains (names f) name → there (read_for cuts name) ≡ v name
    there_read name net =
        elim (picked_cases net_of cuts name) [
          | inr none ↦ ap there (picked_not net_of target_of cuts name name none) ∙ there_uncut name net none
          | inl some ↦
              let (c, member, same) = some in
              ap (λ n. there (read_for cuts n)) (sym same) ∙ ap there (picked_at net_of target_of cuts c c.net placed.once member) ∙ there_target c member ∙ ap v same
        ]

    there_term : (term : Operand) → ((name : List ℕ) → term ≡ Named name → Contains (names f) name) → value_of there (read_operand cuts term) ≡ value_of v term
    there_term Zero reads = refl
    there_term One reads = refl
    there_term (Named name) reads = there_read name (reads name refl)

    there_terms : (g : NamedGate) → Contains f.gates g → map (value_of there) (map (read_operand cuts) g.terms) ≡ map (value_of v) g.terms
    there_terms g member =
        map-map (read_operand cuts) (value_of there) g.terms
        ∙ map_agree (λ t. value_of there (read_operand cuts t)) (value_of v) g.terms
        (λ k t at. there_term t (λ name named. sound.read_nets g member name (Contains_at g.terms k (Named name) (at ∙ ap Some named))))

    there_gate : (g : NamedGate) → Contains f.gates g → there (driven_for cuts g.out) ≡ value_at v g
    there_gate g member =
        elim (picked_cases net_of cuts g.out) [
          | inr none ↦
              ap there (picked_not net_of old_of cuts g.out g.out none) ∙ there_uncut g.out (sound.driven_nets g member) none
              ∙ v_is g member (λ c. none (subst (λ list. Contains list g.out) (sym is.named) c))
          | inl some ↦
              let (c, has_cut, same) = some in
              ap (λ n. there (driven_for cuts n)) (sym same) ∙ ap there (picked_at net_of old_of cuts c c.net placed.once has_cut) ∙ there_old c has_cut
              ∙ ap own same ∙ picked_at (λ (g : NamedGate). g.out) (value_at v) f.gates g false sound.driven_once member
        ]

    there_consistent : IsConsistent m there
    there_consistent h in' =
        elim (Contains-append_cases (map (cut_gate cuts) f.gates) (map port_gate (filter (λ c. has f.outputs c.net) cuts)) h (subst (λ gates. Contains gates h) is.gates in')) [
          | inl plain ↦
              let (g, member, same) = map-Contains (cut_gate cuts) f.gates h plain in
              subst (λ (k : NamedGate). there k.out ≡ value_at there k) same
              (there_gate g member ∙ sym (ap (apply g.kind) (there_terms g member)))
          | inr ports ↦
              let (c, chosen, same) = map-Contains port_gate (filter (λ c. has f.outputs c.net) cuts) h ports in
              let (member, output) = filter-Contains (λ c. has f.outputs c.net) cuts c chosen in
              let (name, port, here) = some_passes (bytes_eq c.net) f.outputs output in
              let is_port : Contains f.outputs c.net = subst (Contains f.outputs) (sym (same_name c.net name here)) port in
              subst (λ (k : NamedGate). there k.out ≡ value_at there k) same
              (sym (there_outputs c.net is_port) ∙ sym (there_target c member))
        ]

  wrong_but : (x : List Bool) → IsWrong m goal x → IsWrongBut f goal nets x
  wrong_but x wrong = record {
    len = wrong.len ∙ ap length is.inputs;
    never = λ v v_is input asked.
        let u = there v v_is in
        let same = there_inputs v v_is in
        wrong.never u (there_consistent v v_is)
        (ap (map u) is.inputs ∙ map_agree u v f.inputs (λ k name at. sym (same name (Contains_at f.inputs k name at))) ∙ input) (record {
          consistent = there_consistent v v_is;
          agrees = λ cared w w_is alike name output.
              let out = subst (λ list. Contains list name) is.outputs output in
              sym (there_outputs v v_is name out)
              ∙ asked (cared_alike f.inputs goal.care u v cares (λ n c. sym (same n c)) cared) w w_is
              (λ n c. same n c ∙ alike n (subst (λ list. Contains list n) (sym is.inputs) c)) name out;
        });
  }

  wrong_cut : (x : List Bool) → IsWrongBut f goal nets x → IsWrong m goal x
  wrong_cut x wrong = record {
    len = wrong.len ∙ ap length (sym is.inputs);
    never = λ u u_is input right.
        let v = back u u_is in
        let same = back_inputs u u_is in
        wrong.never v (back_consistent u u_is)
        (map_agree v u f.inputs (λ k name at. same name (Contains_at f.inputs k name at)) ∙ ap (map u) (sym is.inputs) ∙ input)
        (λ cared w w_is alike name output.
        back_outputs u u_is name output
        ∙ right.agrees (cared_alike f.inputs goal.care v u cares same cared) w w_is
        (λ n c. let input = subst (λ list. Contains list n) is.inputs c in sym (same n input) ∙ alike n input) name (subst (λ list. Contains list name) (sym is.outputs) output));
  }

pub cut_is_wrong_but : CutIsWrongBut
cut_is_wrong_but f goal nets m sound cares once driven is x =
    (wrong_but f goal nets m sound cares once driven is x, wrong_cut f goal nets m sound cares once driven is x)

pub cut_is_rectifiable : CutIsRectifiable
cut_is_rectifiable f goal nets m sound cares once driven is = (
  λ can x wrong. can x ((cut_is_wrong_but f goal nets m sound cares once driven is x).1 wrong),
  λ choice x wrong. choice x ((cut_is_wrong_but f goal nets m sound cares once driven is x).0 wrong),
)
