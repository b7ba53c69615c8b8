-- What a miter tells: proofs.
use Rattle.std.proofs.Common.{◌≡◌, ℕ, Bool, true, false, ◌&&◌, List, ◌++◌, length, map, sym, ◌∙◌, ap, subst, arith, length-append}
use Rattle.std.proofs.lemmas.Bool.{true≢false}
use Rattle.eco_lists.proofs.Tests.{both}
use Rattle.eco_meaning.specs.Circuit.{Circuit, Values, IsConsistent, AgreeOn}
use Rattle.eco_meaning.specs.Meaning.{Goal, IsRight}
use Rattle.eco_laws.proofs.AskedLemmas.{map_from_agree}
use Rattle.eco_laws.proofs.OneValue.{same_by_image}
use Rattle.eco_laws.proofs.Sources.{by_targets}
use Rattle.eco_netlist.proofs.SoundNetlists.{sound_netlist}
use Rattle.eco_aig.specs.declared.edge.Edge.{Edge}
use Rattle.eco_aig.specs.declared.node.Node.{Node}
use Rattle.eco_aig.specs.Edges.{value_of, bits_of}
use Rattle.eco_aig.specs.Graph.{IsValuation}
use Rattle.eco_compile.specs.Valued.{AreValued, differ}
use Rattle.eco_compile.specs.Goals.{AreGoalEdges}
use Rattle.eco_compile.specs.Wrong.{HasBits, IsMiter, IsDeterminedBy, TargetsDetermine, MitersTell}
use Rattle.eco_compile.proofs.Differing.{differ_self, same_from_alike}
use Rattle.eco_compile.proofs.Bits.{split_bits, agree_through}

pub targets_determine : TargetsDetermine
targets_determine n targets checked are v u v_is u_is inputs agree name output =
    let sound = sound_netlist n checked in
    by_targets n v u targets sound v_is u_is inputs agree name (sound.outputs name output) (λ target is fan. are.complete target is)

module _ (f n : Circuit) (goal : Goal) (nets : List (List ℕ)) (nodes : List Node) (inputs opens outputs wanted : List Edge) (cared e : Edge) (same_inputs : n.inputs ≡ f.inputs) (same_outputs : n.outputs ≡ f.outputs) (determined : IsDeterminedBy n nets) (asked : AreGoalEdges f goal nodes inputs wanted cared) (valued : AreValued n nodes (n.inputs ++ nets ++ n.outputs) (inputs ++ opens ++ outputs)) (input_count : length inputs ≡ length n.inputs) (open_count : length opens ≡ length nets) (is : IsMiter nodes outputs wanted cared e) where
  -- a consistent map with the bits of the inputs, the open nets and the outputs
  record HasAllBits (w : ℕ → Bool) (v : Values) : Type 0 where
    consistent : IsConsistent n v
    bits : HasBits n nets inputs opens w v
    output : map v n.outputs ≡ bits_of w outputs

  valued_map : (w : ℕ → Bool) → IsValuation nodes w → (v : Values) × HasAllBits w v
  valued_map w valuation =
      let found = valued.values w valuation in
      let v = found.0 in
      let cut = split_bits v w (n.inputs ++ nets) n.outputs (inputs ++ opens) outputs (length-append inputs opens ∙ (omega (arith, input_count, open_count)) ∙ sym (length-append n.inputs nets)) found.2 in
      let parts = split_bits v w n.inputs nets inputs opens input_count cut.0 in
      (v, record { consistent = found.1; bits = record { input = parts.0; row = parts.1 }; output = cut.1 })

  -- the specification's outputs at such inputs
  wanted_bits : (w : ℕ → Bool) → IsValuation nodes w → (v u : Values) → map v n.inputs ≡ bits_of w inputs → IsConsistent goal.spec u → AgreeOn n.inputs v u → map u n.outputs ≡ bits_of w wanted
  wanted_bits w valuation v u input u_is agree =
      subst (λ list. map u list ≡ bits_of w wanted) (sym same_outputs)
      (asked.outputs_are w valuation v u (subst (λ list. map v list ≡ bits_of w inputs) same_inputs input) u_is (subst (λ list. AgreeOn list v u) same_inputs agree))

  of_f : (w : ℕ → Bool) (v : Values) → map v n.inputs ≡ bits_of w inputs → map v f.inputs ≡ bits_of w inputs
  of_f w v input = subst (λ list. map v list ≡ bits_of w inputs) same_inputs input

  never : (w : ℕ → Bool) → IsValuation nodes w → value_of w e ≡ true → (v : Values) → HasBits n nets inputs opens w v → IsRight n goal v → ⊥
  never w valuation one v has right =
      let tests = both (value_of w cared) (differ (bits_of w outputs) (bits_of w wanted)) (sym (is.value w valuation) ∙ one) in
      let found = valued_map w valuation in
      let u = found.0 in
      let all = found.1 in
      let spec = asked.some w valuation v (of_f w v has.input) in
      let s = spec.0 in
      let at_inputs : AgreeOn n.inputs v s = subst (λ list. AgreeOn list v s) (sym same_inputs) spec.2 in
      let is_cared = (asked.cared_is w valuation v (of_f w v has.input)).0 tests.0 in
      let agreed : AgreeOn n.outputs v s = right.agrees is_cared s spec.1 at_inputs in
      let outputs_agree : AgreeOn n.outputs v u = determined v u right.consistent all.consistent (same_by_image v u n.inputs (has.input ∙ sym all.bits.input)) (same_by_image v u nets (has.row ∙ sym all.bits.row)) in
      let equal : bits_of w outputs ≡ bits_of w wanted = sym all.output ∙ map_from_agree u s n.outputs (agree_through n.outputs v u s outputs_agree agreed) ∙ wanted_bits w valuation v s has.input spec.1 at_inputs in
      true≢false (sym tests.1 ∙ ap (λ bits. differ bits (bits_of w wanted)) equal ∙ differ_self (bits_of w wanted))

  some : (w : ℕ → Bool) → IsValuation nodes w → value_of w e ≡ false → (v : Values) × HasBits n nets inputs opens w v × IsRight n goal v
  some w valuation off =
      let found = valued_map w valuation in
      let v = found.0 in
      let all = found.1 in (
        v,
        all.bits,
        record {
          consistent = all.consistent;
          agrees = λ is_cared u u_is agree.
              let one = (asked.cared_is w valuation v (of_f w v all.bits.input)).1 is_cared in
              let alike : differ (bits_of w outputs) (bits_of w wanted) ≡ false = sym (ap (λ b. b && differ (bits_of w outputs) (bits_of w wanted)) one) ∙ sym (is.value w valuation) ∙ off in
              same_by_image v u n.outputs (all.output ∙ same_from_alike (bits_of w outputs) (bits_of w wanted) alike ∙ sym (wanted_bits w valuation v u all.bits.input u_is agree));
        },
      )

pub miters_tell : MitersTell
miters_tell f n goal nets nodes inputs opens outputs wanted cared e same_inputs same_outputs determined asked valued input_count open_count is = record {
  within = is.within;
  wrong = never f n goal nets nodes inputs opens outputs wanted cared e same_inputs same_outputs determined asked valued input_count open_count is;
  right = some f n goal nets nodes inputs opens outputs wanted cared e same_inputs same_outputs determined asked valued input_count open_count is;
}
