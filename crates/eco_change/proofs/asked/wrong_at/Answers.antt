-- The input is wrong exactly if it is cared and the old netlist has other outputs.
use Rattle.std.proofs.Common.{◌≡◌, Bool, List, map, sym, ◌∙◌, ap, subst}
use Rattle.std.proofs.lemmas.Bool.{both_ways}
use Rattle.eco_meaning.specs.Circuit.{Circuit, Values, names}
use Rattle.eco_netlist.specs.Netlists.{bit_of}
use Rattle.eco_netlist.specs.Values.{AreValuesAt}
use Rattle.eco_change.specs.Asked.{TellsAsked}
use Rattle.eco_change.proofs.AskedLemmas.{uncared_is_right, same_is_right, other_is_wrong}
use Rattle.eco_change.proofs.asked.wrong_at.Goals as goal

-- the values that are read are those at the input
at_input : (f h : Circuit) (input values slice : List Bool) → h ≡ f → slice ≡ values → AreValuesAt h input values → AreValuesAt f input slice
at_input f h input values slice old same is = subst (AreValuesAt f input) (sym same) (subst (λ (n : Circuit). AreValuesAt n input values) old is)

-- and so are the outputs
had : (f h : Circuit) (values slice outputs : List Bool) → h ≡ f → slice ≡ values → outputs ≡ map (bit_of (names h) slice) h.outputs → outputs ≡ map (bit_of (names f) values) f.outputs
had f h values slice outputs old same is =
    is ∙ ap (λ (l : List Bool). map (bit_of (names h) l) h.outputs) same ∙ ap (λ (n : Circuit). map (bit_of (names n) values) n.outputs) old

pub returns-in_default : goal.returns-in_default
returns-in_default c =
    let f = c.args.change.now.old in
    let values = c.in_ok-values.values.items in
    let input = c.args.input.now in
    let at = at_input f c.old-old.result.now input values c.as_slice.result.now c.old-old.ensures.value c.as_slice.ensures.value c.in_ok-values.ensures in
    let asked = c.in_ok-wanted.ensures input at in
    uncared_is_right f c.args.change.now.goal c.old-old.ensures.change (bit_of (names f) c.as_slice.result.now) input at.consistent at.input
    (subst (TellsAsked f c.args.change.now.goal input) c.in_default.is asked)

pub returns-then-are_same : goal.returns-then-are_same
returns-then-are_same c =
    let f = c.args.change.now.old in
    let values = c.in_ok-values.values.items in
    let input = c.args.input.now in
    let v : Values = bit_of (names f) c.as_slice.result.now in
    let at = at_input f c.old-old.result.now input values c.as_slice.result.now c.old-old.ensures.value c.as_slice.ensures.value c.in_ok-values.ensures in
    let asked = subst (TellsAsked f c.args.change.now.goal input) c.in-Some.is (c.in_ok-wanted.ensures input at) in
    let outputs : c.in_ok-outputs.outputs.items ≡ map v f.outputs =
    had f c.old-old.result.now c.as_slice.result.now c.as_slice-2.result.now c.in_ok-outputs.outputs.items c.old-old.ensures.value (c.as_slice-2.ensures.value ∙ sym c.as_slice.ensures.value) c.in_ok-outputs.ensures in
    same_is_right f c.args.change.now.goal c.old-old.ensures.change v input c.in-Some.wanted at.consistent at.input asked.asked
    (sym outputs ∙ sym c.as_slice-3.ensures.value ∙ c.are_same.ensures.0 c.if-are_same.true ∙ c.as_slice-4.ensures)

pub returns : goal.returns
returns c =
    let f = c.args.change.now.old in
    let values = c.in_ok-values.values.items in
    let input = c.args.input.now in
    let v : Values = bit_of (names f) c.as_slice.result.now in
    let at = at_input f c.old-old.result.now input values c.as_slice.result.now c.old-old.ensures.value c.as_slice.ensures.value c.in_ok-values.ensures in
    let asked = subst (TellsAsked f c.args.change.now.goal input) c.in-Some.is (c.in_ok-wanted.ensures input at) in
    let outputs : c.in_ok-outputs.outputs.items ≡ map v f.outputs =
    had f c.old-old.result.now c.as_slice.result.now c.as_slice-2.result.now c.in_ok-outputs.outputs.items c.old-old.ensures.value (c.as_slice-2.ensures.value ∙ sym c.as_slice.ensures.value) c.in_ok-outputs.ensures in (
      other_is_wrong f c.args.change.now.goal c.old-old.ensures.change v input c.in-Some.wanted at.consistent at.input asked.asked
          (λ same. both_ways c.are_same.result c.if-are_same.false (c.are_same.ensures.1 (c.as_slice-3.ensures.value ∙ outputs ∙ same ∙ sym c.as_slice-4.ensures))),
      asked,
    )
