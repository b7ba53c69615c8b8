-- No gate at first, then one more, and at the end all of them.
use Rattle.std.proofs.Common.{◌≤◌, ◌++◌, ◌∷◌, [], map, take, length, sym, ◌∙◌, ap, arith}
use Rattle.std.proofs.lemmas.List.{append-nil, take_all}
use Rattle.eco_meaning.specs.Circuit.{names}
use Rattle.eco_netlist.specs.Netlists.{named_gate}
use Rattle.eco_netlist.specs.Draft.{Declared}
use Rattle.eco_cutting.specs.Cuts.{cut_gate}
use Rattle.eco_cutting.proofs.DraftLemmas.{with_gates, gates_more}
use Rattle.eco_cutting.proofs.cutting.add_gates.Goals as goal

pub loop-gate-init : goal.loop-gate-init
loop-gate-init c = ap (with_gates c.args.draft.now) (sym (append-nil c.args.draft.now.gates))

pub loop-gate-preserved : goal.loop-gate-preserved
loop-gate-preserved c =
    let list = names c.args.f.now in
    let cuts = c.args.cuts.now in
    let gates = c.gates-gates.result.now in
    let k = c.loop-gate.gate-index in
    let draft = c.args.draft.now in
    let item = c.gate-item.result in
    c.in_ok-add_gate.ensures
    ∙ ap (λ (d : Declared). with_gates d (d.gates ++ cut_gate cuts (named_gate list item) ∷ [])) c.loop-gate.invariant
    ∙ ap (λ g. with_gates draft ((draft.gates ++ map (cut_gate cuts) (map (named_gate list) (take k gates))) ++ cut_gate cuts (named_gate list g) ∷ [])) c.gate-item.is
    ∙ ap (with_gates draft) (gates_more (named_gate list) (cut_gate cuts) draft.gates gates k item (omega arith))

pub returns : goal.returns
returns c =
    let all : length c.gates-gates.result.now ≤ c.loop-gate.gate-index = omega arith in
    c.loop-gate.invariant
    ∙ ap (λ list. with_gates c.args.draft.now (c.args.draft.now.gates ++ map (cut_gate c.args.cuts.now) list))
    (ap (map (named_gate (names c.args.f.now))) (take_all c.loop-gate.gate-index c.gates-gates.result.now all) ∙ c.gates-gates.ensures.named)
