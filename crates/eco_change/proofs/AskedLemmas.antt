-- What is asked at an input, by the values that the netlists have there.
use Rattle.std.proofs.Common.{◌≡◌, ◌≢◌, ℕ, Bool, true, false, List, [], ◌∷◌, Some, None, map, length, get_or, sym, ◌∙◌, ap, subst, arith}
use Rattle.std.specs.List.{All, Contains}
use Rattle.std.proofs.lemmas.Bool.{false≢true}
use Rattle.std.proofs.lemmas.List.{length-map}
use Rattle.std.proofs.lemmas.List.Elements.{All-contains, All-cons, All-nil}
use Rattle.eco_lists.proofs.Members.{Contains_first, Contains_none}
use Rattle.eco_lists.proofs.Places.{All_from_places, All_at, Contains_at}
use Rattle.eco_meaning.specs.Circuit.{Circuit, Values, names, IsConsistent, AgreeOn}
use Rattle.eco_meaning.specs.Meaning.{Goal, IsCared, IsWrong}
use Rattle.eco_laws.specs.Kept.{CaresForInputs}
use Rattle.eco_laws.specs.Sound.{IsSound}
use Rattle.eco_laws.proofs.AskedLemmas.{map_from_agree}
use Rattle.eco_laws.proofs.Keeping.{cared_alike}
use Rattle.eco_laws.proofs.OneValue.{same_by_image}
use Rattle.eco_laws.proofs.Reaching.{takes_any_inputs}
use Rattle.eco_laws.proofs.Sources.{by_targets}
use Rattle.eco_choices.specs.Choices.{HasAskedOutputs}
use Rattle.eco_choices.specs.Turned.{AreAsked}
use Rattle.eco_choices.proofs.TurnedLemmas.{specification_is_asked, other_outputs_are_wrong}
use Rattle.eco_netlist.proofs.SoundNetlists.{sound_netlist}
use Rattle.eco_netlist.specs.Netlists.{IsChecked, bit_of}
use Rattle.eco_netlist.specs.Values.{AreValuesAt}
use Rattle.eco_query.specs.Problem.{IsClosed, IsCareOf}
use Rattle.eco_change.specs.Change.{IsChange}
use Rattle.eco_change.specs.Asked.{AreWanted, TellsAsked, TellsCared}

-- the inputs of a checked netlist without targets determine its nets
one_value : (n : Circuit) (v u : Values) → IsChecked n → IsClosed n → IsConsistent n v → IsConsistent n u → AgreeOn n.inputs v u → (name : List ℕ) → Contains n.outputs name → v name ≡ u name
one_value n v u checked closed v_is u_is inputs name output =
    let sound : IsSound n = sound_netlist n checked in
    by_targets n v u [] sound v_is u_is inputs (λ k c. absurd (Contains_none k c)) name (sound.outputs name output) (λ target is fan. absurd (closed target is))

all_of_one : (w : Values) (outputs : List (List ℕ)) (bit : Bool) → length outputs ≡ 1 → get_or (map w outputs) 0 bit ≡ true → All (λ output. w output ≡ true) outputs
all_of_one w [] bit one is = absurd (omega arith)
all_of_one w (output ∷ []) bit one is = All-cons (λ output. w output ≡ true) output [] is (All-nil (λ output. w output ≡ true))
all_of_one w (output ∷ other ∷ outputs) bit one is = absurd (omega arith)

one_of_all : (w : Values) (outputs : List (List ℕ)) (bit : Bool) → length outputs ≡ 1 → All (λ output. w output ≡ true) outputs → get_or (map w outputs) 0 bit ≡ true
one_of_all w [] bit one all = absurd (omega arith)
one_of_all w (output ∷ outputs) bit one all = All-contains (λ output. w output ≡ true) (output ∷ outputs) output all (Contains_first output outputs)

-- whether an input is cared, by the values that the cared netlist has there
pub tells_cared : (f c : Circuit) (v w : Values) (d bit : Bool) → IsCareOf f c → IsConsistent c w → AgreeOn c.inputs v w → get_or (map w c.outputs) 0 d ≡ bit → TellsCared (Some c) v bit
tells_cared f c v w d true is w_is same one = λ o o_is agree.
    All_from_places (λ output. o output ≡ true) c.outputs (λ k output at.
    one_value c o w is.checked is.closed o_is w_is (λ name input. sym (agree name input) ∙ same name input) output (Contains_at c.outputs k output at)
    ∙ All_at (λ output. w output ≡ true) c.outputs k output (all_of_one w c.outputs d is.one_output one) at)
tells_cared f c v w d false is w_is same one = λ cared.
    false≢true (sym one ∙ one_of_all w c.outputs d is.one_output (cared w w_is same))

module _ (f : Circuit) (goal : Goal) (is : IsChange f goal) where
  cares : CaresForInputs f goal
  cares care some name c = ((is.asked.care care some).inputs name).1 c

  pub none_cared : (v : Values) (x : List Bool) → map v f.inputs ≡ x → (IsCared goal.care v → ⊥) → TellsAsked f goal x None
  none_cared v x input never u input_u cared =
      never (cared_alike f.inputs goal.care u v cares (same_by_image u v f.inputs (input_u ∙ sym input)) cared)

  -- the specification's values at an input tell what is asked there
  pub asked_for : (v u : Values) (x : List Bool) → map v f.inputs ≡ x → IsCared goal.care v → IsConsistent goal.spec u → AgreeOn goal.spec.inputs v u → AreAsked f goal x (map u f.outputs)
  asked_for v u x input cared u_is same =
      let inputs : AgreeOn f.inputs v u = λ name c. same name ((is.asked.inputs name).0 c) in
      let at : map u f.inputs ≡ x = sym (map_from_agree v u f.inputs inputs) ∙ input in
      subst (λ (y : List Bool). AreAsked f goal y (map u f.outputs)) at (specification_is_asked f goal u cares u_is (cared_alike f.inputs goal.care v u cares inputs cared))

  -- what is read of the specification g, at the values that h has
  pub wanted_from : (h g : Circuit) (x values input found wanted : List Bool) → h ≡ f → g ≡ goal.spec → map (bit_of (names f) values) f.inputs ≡ x → IsCared goal.care (bit_of (names f) values) →
      input ≡ map (bit_of (names h) values) g.inputs → AreValuesAt g input found → wanted ≡ map (bit_of (names g) found) h.outputs → AreWanted f goal x wanted
  wanted_from h g x values input found wanted old spec at cared read values_are outputs =
      let v = bit_of (names f) values in
      let u = bit_of (names g) found in
      let inputs : map v g.inputs ≡ map u g.inputs = sym (read ∙ ap (λ (n : Circuit). map (bit_of (names n) values) g.inputs) old) ∙ sym values_are.input in
      let same : AgreeOn goal.spec.inputs v u = same_by_image v u goal.spec.inputs (subst (λ (n : Circuit). map v n.inputs ≡ map u n.inputs) spec inputs) in
      let all : wanted ≡ map u f.outputs = outputs ∙ ap (λ (n : Circuit). map u n.outputs) old in
      record {
        asked = subst (AreAsked f goal x) (sym all) (asked_for v u x at cared (subst (λ (n : Circuit). IsConsistent n u) spec values_are.consistent) same);
        len = ap length all ∙ length-map f.outputs u;
      }

  -- an input at which f has other outputs is wrong
  pub other_is_wrong : (v : Values) (x wanted : List Bool) → IsConsistent f v → map v f.inputs ≡ x → AreAsked f goal x wanted → map v f.outputs ≢ wanted → IsWrong f goal x
  other_is_wrong v x wanted v_is input are other =
      subst (IsWrong f goal) input
      (other_outputs_are_wrong f goal v wanted (sound_netlist f is.checked) is.closed v_is (subst (λ (y : List Bool). AreAsked f goal y wanted) (sym input) are) other)

  spec_alike : (u o : Values) → IsConsistent goal.spec u → IsConsistent goal.spec o → AgreeOn f.inputs u o → AgreeOn f.outputs u o
  spec_alike u o u_is o_is inputs name output =
      one_value goal.spec u o is.asked.checked is.asked.closed u_is o_is (λ n c. inputs n ((is.asked.inputs n).1 c)) name ((is.asked.outputs name).0 output)

  -- one at which it has the outputs that are asked for is right
  pub same_is_right : (v : Values) (x wanted : List Bool) → IsConsistent f v → map v f.inputs ≡ x → AreAsked f goal x wanted → map v f.outputs ≡ wanted → IsWrong f goal x → ⊥
  same_is_right v x wanted v_is input are same wrong =
      let (u, u_is, agree) = takes_any_inputs goal.spec (sound_netlist goal.spec is.asked.checked) v in
      let inputs : AgreeOn f.inputs v u = λ name c. agree name ((is.asked.inputs name).0 c) in
      let at : map u f.inputs ≡ x = sym (map_from_agree v u f.inputs inputs) ∙ input in
      let asked : HasAskedOutputs f goal u = λ cared o o_is alike. spec_alike u o u_is o_is alike in
      let outputs : AgreeOn f.outputs v u = same_by_image v u f.outputs (same ∙ sym (are u at asked)) in
      wrong.never v v_is input record {
        consistent = v_is;
        agrees = λ cared o o_is alike name output.
            outputs name output ∙ spec_alike u o u_is o_is (λ n c. sym (inputs n c) ∙ alike n c) name output;
      }

  pub uncared_is_right : (v : Values) (x : List Bool) → IsConsistent f v → map v f.inputs ≡ x → TellsAsked f goal x None → IsWrong f goal x → ⊥
  uncared_is_right v x v_is input none wrong =
      wrong.never v v_is input record { consistent = v_is; agrees = λ cared. absurd (none v input cared) }
