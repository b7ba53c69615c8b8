-- One more gate, and at the end all of them, at each place of the words.
use Rattle.std.proofs.Common.{◌≡◌, ◌<◌, ◌+◌, ℕ, Bool, List, Some, length, get_or, map, option_map, sym, ◌∙◌, ap, subst, arith}
use Rattle.std.specs.List.{slice_get}
use Rattle.std.proofs.lemmas.List.{length-map}
use Rattle.std.proofs.lemmas.Option.{slice_get-get_or, slice_get-map}
use Rattle.eco_gates.specs.Gates.{IsWithin}
use Rattle.eco_gates.specs.Words.{is_set, lane}
use Rattle.eco_lists.proofs.Places.{All_at}
use Rattle.eco_gates.proofs.Running.{IsRunTo, run_more, run_all, reads_behind, consistent_unique}
use Rattle.eco_lanes.specs.Turning.{turned_gate}
use Rattle.eco_lanes.proofs.Opposites.{turned_within, turned_once, turned_order, turned_free, free_turned}
use Rattle.eco_lanes.proofs.turning.fill_turned.Goals as goal

pub fill_gate-requires-clause-apart : goal.fill_gate-requires-clause-apart
fill_gate-requires-clause-apart c =
    let k = c.loop-number.number-index in
    let gates = c.args.gates.now in
    let order = c.args.order.now in
    let i = get_or order k 0 in
    let g = c.index-gates-number.result in
    let at_k : slice_get order k ≡ Some i = slice_get-get_or order k 0 (omega arith) in
    let within : i < length gates = All_at (λ (i : ℕ). i < length gates) order k i c.requires.order.numbers at_k in
    let gate_i : slice_get gates i ≡ Some g = slice_get-get_or gates i g within ∙ ap Some (sym c.index-gates-number.is) in
    reads_behind gates order k k i i g g c.requires.order (omega arith) at_k gate_i at_k gate_i

pub loop-number-preserved : goal.loop-number-preserved
loop-number-preserved c =
    let (len, runs) = c.loop-number.invariant in (
      c.fill_gate.ensures.length ∙ len,
      λ place lt.
          let k = c.loop-number.number-index in
          let order = c.args.order.now in
          let turns = lane c.args.turns.now place in
          let gates = map (turned_gate turns) c.args.gates.now in
          let old = lane c.args.words.now place in
          let values = lane c.loop-number.words place in
          let i = get_or order k 0 in
          let g = c.index-gates-number.result in
          let at_k : slice_get order k ≡ Some i = slice_get-get_or order k 0 (omega arith) in
          let within : i < length c.args.gates.now = All_at (λ (i : ℕ). i < length c.args.gates.now) order k i c.requires.order.numbers at_k in
          let plain : slice_get c.args.gates.now i ≡ Some g = slice_get-get_or c.args.gates.now i g within ∙ ap Some (sym c.index-gates-number.is) in
          let gate_i : slice_get gates i ≡ Some (turned_gate turns g) = slice_get-map (turned_gate turns) c.args.gates.now i ∙ ap (option_map (turned_gate turns)) plain in
          let room : IsWithin (length old) gates =
          turned_within turns c.args.gates.now (length old) (subst (λ (n : ℕ). IsWithin n c.args.gates.now) (sym (length-map c.args.words.now (λ word. is_set word place))) c.requires.within) in
          let more = run_more gates order old values k i (turned_gate turns g) room (turned_once turns c.args.gates.now c.requires.once) (turned_order turns c.args.gates.now order c.requires.order) at_k gate_i (runs place lt) in
          subst (λ (bits : List Bool). IsRunTo gates order old (k + 1) bits) (sym (c.fill_gate.ensures.turned place lt)) more,
    )

pub returns-clause-turned : goal.returns-clause-turned
returns-clause-turned c = λ place lt.
    let turns = lane c.args.turns.now place in
    let (len, runs) = c.loop-number.invariant in
    run_all (map (turned_gate turns) c.args.gates.now) c.args.order.now (lane c.args.words.now place) (lane c.loop-number.words place) c.loop-number.number-index
    (turned_order turns c.args.gates.now c.args.order.now c.requires.order) c.loop-number-test.false (runs place lt)

pub returns-clause-kept : goal.returns-clause-kept
returns-clause-kept c = λ place lt net free.
    let (len, runs) = c.loop-number.invariant in
    (runs place lt).kept net (turned_free (lane c.args.turns.now place) c.args.gates.now net free)

pub returns-clause-only : goal.returns-clause-only
returns-clause-only c = λ place lt bits same consistent agree.
    let turns = lane c.args.turns.now place in
    let gates = map (turned_gate turns) c.args.gates.now in
    let order = c.args.order.now in
    let old = lane c.args.words.now place in
    let values = lane c.loop-number.words place in
    let (len, runs) = c.loop-number.invariant in
    let run = runs place lt in
    let in_order = turned_order turns c.args.gates.now order c.requires.order in
    consistent_unique gates order bits values in_order
    (same ∙ sym (length-map c.args.words.now (λ word. is_set word place)) ∙ sym run.len)
    consistent (run_all gates order old values c.loop-number.number-index in_order c.loop-number-test.false run)
    (λ net free. agree net (free_turned turns c.args.gates.now net free) ∙ sym (run.kept net free))
