use Rattle.std.proofs.Common.{◌≡◌, ◌<◌, ℕ, [], Some, get_or, length, arith, sym, ap, ◌∙◌, subst}
use Rattle.std.proofs.lemmas.Option.{slice_get-get_or, slice_get-map}
use Rattle.std.specs.Prelude.{option_map}
use Rattle.eco_lists.proofs.Places.{any_default}
use Rattle.eco_gates.specs.declared.gate.NetId.{NetId}
use Rattle.eco_netlist.specs.Netlists.{name_at, names_at}
use Rattle.eco_netlist.specs.Tallies.{is_free}
use Rattle.eco_netlist.specs.Targets.{HasTargets}
use Rattle.eco_netlist.proofs.target.target_map.Goals as goal

pub loop-number-preserved : goal.loop-number-preserved
loop-number-preserved c = λ counts distinct counted.
    let net : NetId = get_or c.args.nets.now c.loop-number.number (record { 0 = 0 }) in
    let within : net.0 < length c.args.names.now = c.requires.nets c.loop-number.number (record { 0 = 0 }) c.loop-number-test.true in
    let is : name_at c.args.names.now net.0 ≡ c.index-names-index.result =
    any_default c.args.names.now net.0 [] c.index-names-index.result within ∙ sym c.index-names-index.is in
    c.in_ok-note_target.ensures counts (names_at c.args.names.now c.args.nets.now) distinct
    (slice_get-map (λ (n : NetId). name_at c.args.names.now n.0) c.args.nets.now c.loop-number.number
    ∙ ap (option_map (λ (n : NetId). name_at c.args.names.now n.0)) (slice_get-get_or c.args.nets.now c.loop-number.number (record { 0 = 0 }) c.loop-number-test.true)
    ∙ ap Some is)
    (ap counts (sym is) ∙ counted net.0 within)
    (c.loop-number.invariant counts distinct counted)

pub returns : goal.returns
returns c = λ counts distinct counted.
    let end : c.loop-number.number ≡ length c.args.nets.now = omega (arith, c.loop-number-test.false, c.loop-number.auto.number-end) in
    subst (λ (seen : ℕ). HasTargets (λ name. is_free c.args.rule name (counts name)) (names_at c.args.names.now c.args.nets.now) seen c.loop-number.targets)
    end (c.loop-number.invariant counts distinct counted)
