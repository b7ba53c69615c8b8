-- The words after the one gate, with the word of its net turned.
use Rattle.std.proofs.Common.{◌≡◌, List, length, slice_index_or, bit_xor, set, sym, ◌∙◌, ap, subst}
use Rattle.std.proofs.lemmas.List.{length-map}
use Rattle.eco_gates.specs.GateValue.{GateValue}
use Rattle.eco_gates.specs.Gates.{IsGateWithin}
use Rattle.eco_gates.specs.Evaluation.{IsConsistentAt, AgreeUndriven, gate_value}
use Rattle.eco_gates.specs.Words.{is_set, lane}
use Rattle.eco_lanes.proofs.Single.{one_filled, turned_lane}
use Rattle.eco_lanes.proofs.turning.fill_gate.Goals as goal

pub returns-clause-turned : goal.returns-clause-turned
returns-clause-turned c = λ place lt.
    let g = c.args.gate.now in
    let old = c.args.words.now in
    let mid = c.fill_words.new.words in
    let turns = c.args.turns.now in
    let count : length (lane old place) ≡ length old = length-map old (λ word. is_set word place) in
    let within : IsGateWithin (length (lane old place)) g = subst (λ n. IsGateWithin n g) (sym count) c.requires.within in
    let filled : lane mid place ≡ set (lane old place) g.out.0 (gate_value (lane old place) g) =
    one_filled g (lane old place) (lane mid place) within c.requires.apart
    (length-map mid (λ word. is_set word place) ∙ c.fill_words.ensures.length ∙ sym count)
    (subst (λ (gates : List GateValue). IsConsistentAt gates (lane mid place)) c.from_ref.ensures.value (c.fill_words.ensures.consistent place lt))
    (subst (λ (gates : List GateValue). AgreeUndriven gates (lane mid place) (lane old place)) c.from_ref.ensures.value (c.fill_words.ensures.kept place lt)) in
    let is : c.gate.inside.out.0 ≡ g.out.0 = ap (λ (g : GateValue). g.out.0) c.gate.view_is in
    ap (λ net. lane (set mid net (bit_xor (slice_index_or mid net 0) (slice_index_or turns net 0))) place) is
    ∙ turned_lane old mid turns g place (c.requires.turns ∙ sym c.fill_words.ensures.length) (sym c.fill_words.ensures.length) c.requires.within.out filled
