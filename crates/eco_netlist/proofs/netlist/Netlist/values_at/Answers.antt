-- What is filled in over the bits of the input are the values.
use Rattle.std.specs.List.{AllPairs}
use Rattle.std.proofs.Common.{◌≡◌, ◌≢◌, ℕ, Bool, List, ◌++◌, take, drop, arith, length, sym, ◌∙◌, ap, subst}
use Rattle.std.proofs.Math.Seq.{take-append_seam}
use Rattle.std.proofs.lemmas.List.{length-map}
use Rattle.eco_meaning.specs.Circuit.{Values, names}
use Rattle.eco_gates.specs.declared.gate.NetId.{NetId}
use Rattle.eco_netlist.specs.Netlists.{name_at, bit_of, KeepsUndriven}
use Rattle.eco_netlist.specs.Values.{AreValuesAt, HasInputBits}
use Rattle.eco_netlist.proofs.SoundNetlists.{sound_netlist}
use Rattle.eco_netlist.proofs.InputBits.{nets_differ, input_of_map, target_of_map}
use Rattle.eco_netlist.proofs.netlist.Netlist.values_at.Goals as goal

pub started-requires-clause-apart : goal.started-requires-clause-apart
started-requires-clause-apart c =
    nets_differ (names c.args.self.now) c.inputs.result.now
    (subst (AllPairs (λ a b. a ≢ b)) (sym c.inputs.ensures.named) (sound_netlist c.args.self.now c.nets.ensures.checked).inputs_once)

-- a list that was written whole
whole : (new rest : List Bool) (len : ℕ) → len ≡ length new → take len (new ++ rest) ≡ new
whole new rest len same = ap (λ k. take k (new ++ rest)) same ∙ take-append_seam new rest

pub returns : goal.returns
returns c =
    let n = c.args.self.now in
    let x = c.args.input.now in
    let nets = c.inputs.result.now in
    let new = c.fill.new.values in
    let old = c.in_ok-values.values.items in
    let count : length nets ≡ length x =
    sym (length-map nets (λ (net : NetId). name_at (names n) net.0)) ∙ ap length c.inputs.ensures.named ∙ sym c.requires in
    let started : HasInputBits (length (names n)) nets x (length nets) old =
    subst (λ k. HasInputBits k nets x (length nets) old) c.nets.ensures.count c.in_ok-values.ensures in
    let v : Values = bit_of (names n) new in
    let kept : KeepsUndriven n v old = subst (KeepsUndriven n v) c.as_mut_slice.ensures.value (c.fill.ensures.kept v c.fill.ensures.valued) in
    let long : c.in_ok-values.values.len ≡ length new = omega (arith, c.in_ok-values.values.ok.0, c.fill.ensures.length, ap length c.as_mut_slice.ensures.value) in
    subst (AreValuesAt n x) (sym (whole new (drop (length new) old) c.in_ok-values.values.len long)) (record {
      valued = c.fill.ensures.valued;
      consistent = c.fill.ensures.consistent v c.fill.ensures.valued;
      input = input_of_map n nets x old v (sound_netlist n c.nets.ensures.checked) c.inputs.ensures.named c.inputs.ensures.within count started kept;
      targets = target_of_map n nets x old v c.inputs.ensures.named count started kept;
    })
