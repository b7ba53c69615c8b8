-- What the specification gives is asked for, if the input is cared.
use Rattle.std.proofs.Common.{◌≡◌, Bool, List, map, ◌∙◌, ap, subst}
use Rattle.eco_meaning.specs.Circuit.{Values, names}
use Rattle.eco_netlist.specs.Netlists.{bit_of}
use Rattle.eco_change.specs.Asked.{TellsCared}
use Rattle.eco_change.proofs.AskedLemmas.{none_cared, wanted_from}
use Rattle.eco_change.proofs.asked.asked_by.Goals as goal

pub returns-then-not-branch : goal.returns-then-not-branch
returns-then-not-branch c x is =
    let f = c.args.change.now.old in
    let goal_here = c.args.change.now.goal in
    let v : Values = bit_of (names f) c.args.values.now in
    none_cared f goal_here c.old-old.ensures.change v x is.input (subst (TellsCared goal_here.care v) c.if-not-branch.true c.in_ok-is_cared.ensures)

pub returns : goal.returns
returns c x is =
    let f = c.args.change.now.old in
    let goal_here = c.args.change.now.goal in
    let h = c.old-old.result.now in
    let g = c.specification-specification.result.now in
    let values = c.args.values.now in
    let found = c.in_ok-found.found.items in
    let input = c.as_slice.result.now in
    let cared = subst (TellsCared goal_here.care (bit_of (names f) values)) c.if-not-branch.false c.in_ok-is_cared.ensures in
    let read : input ≡ map (bit_of (names h) values) g.inputs = c.as_slice.ensures.value ∙ c.in_ok-input.ensures ∙ ap (map (bit_of (names h) values)) c.inputs.ensures.named in
    let outputs : c.of.result ≡ map (bit_of (names g) found) h.outputs =
    c.of.ensures ∙ c.in_ok-outputs.ensures ∙ ap (map (bit_of (names g) c.as_slice-2.result.now)) c.outputs.ensures.named
    ∙ ap (λ (l : List Bool). map (bit_of (names g) l) h.outputs) c.as_slice-2.ensures.value in
    wanted_from f goal_here c.old-old.ensures.change h g x values input found c.of.result c.old-old.ensures.value c.specification-specification.ensures.value is.input cared read c.in_ok-found.ensures outputs
