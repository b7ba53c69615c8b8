-- What the values of the nets at two inputs tell of candidates.
use Rattle.std.proofs.Common.{◌≡◌, ◌<◌, Bool, true, false, not, List, [], Some, option_map, length, map, get_or, sym, ◌∙◌, ap}
use Rattle.std.specs.List.{slice_get}
use mathlib.Core.Bool.{beq}
use Rattle.std.proofs.lemmas.Bool.{false≢true, not-false}
use Rattle.std.proofs.lemmas.Option.{slice_get-map, slice_get-get_or, get_or_from_slice_get}
use Rattle.eco_lists.proofs.Tests.{beq_own, beq_same}
use Rattle.eco_lists.proofs.Places.{Contains_at}
use Rattle.eco_lists.proofs.Members.{Contains_none}
use Rattle.eco_meaning.specs.Circuit.{Circuit, Values, names, IsConsistent}
use Rattle.eco_meaning.specs.Patch.{IsBehindOnly}
use Rattle.eco_meaning.specs.Bound.{Part, TellsApart, IsAlikeAt}
use Rattle.eco_gates.specs.declared.gate.NetId.{NetId}
use Rattle.eco_laws.specs.Sound.{IsSound}
use Rattle.eco_laws.proofs.Sources.{by_targets}
use Rattle.eco_laws.proofs.OneValue.{same_by_image}
use Rattle.eco_netlist.specs.Netlists.{bit_of, name_at}
use Rattle.eco_netlist.specs.Values.{AreValuesAt}
use Rattle.eco_bound.specs.declared.payers.Sight.{Sight}
use Rattle.eco_bound.specs.Payers.{tells_apart}
use Rattle.eco_bound.specs.Accounts.{IsSight}

module _ (f : Circuit) (sound : IsSound f) (net : NetId) (within : net.0 < length (names f)) (apart : IsBehindOnly f [] (name_at (names f) net.0)) where
  -- a net behind no target has one value in all maps with the input
  bit_here : (x bits : List Bool) → AreValuesAt f x bits → (v : Values) → IsConsistent f v → map v f.inputs ≡ x → v (name_at (names f) net.0) ≡ get_or bits net.0 false
  bit_here x bits are v consistent input =
      let list = names f in
      let v0 = bit_of list bits in
      let at : slice_get list net.0 ≡ Some (name_at list net.0) = slice_get-get_or list net.0 [] within in
      let here : slice_get (map v0 list) net.0 ≡ Some (v0 (name_at list net.0)) = slice_get-map v0 list net.0 ∙ ap (option_map v0) at in
      by_targets f v v0 [] sound consistent are.consistent (same_by_image v v0 f.inputs (input ∙ sym are.input)) (λ name c. absurd (Contains_none name c))
      (name_at list net.0) (Contains_at list net.0 (name_at list net.0) at) apart
      ∙ sym (get_or_from_slice_get (map v0 list) net.0 (v0 (name_at list net.0)) false here)
      ∙ ap (λ values. get_or values net.0 false) are.valued

  module _ (p : Circuit) (part : Part) (sight : Sight) (is : IsSight f part.force1 part.force0 sight) where
    -- where the values differ it tells the inputs apart
    pub sight_tells : tells_apart sight net ≡ true → TellsApart f p (name_at (names f) net.0) part
    sight_tells told v u at_one at_zero same =
        let bits : get_or sight.ones.items net.0 false ≡ get_or sight.zeros.items net.0 false =
        sym (bit_here part.force1 sight.ones.items is.ones v at_one.consistent at_one.input) ∙ same ∙ bit_here part.force0 sight.zeros.items is.zeros u at_zero.consistent at_zero.input in
        false≢true (sym (ap not (ap (λ bit. beq bit (get_or sight.zeros.items net.0 false)) bits ∙ beq_own (get_or sight.zeros.items net.0 false))) ∙ told)

    -- else it has one value at both
    pub sight_alike : tells_apart sight net ≡ false → IsAlikeAt f p (name_at (names f) net.0) part
    sight_alike silent v u at_one at_zero =
        bit_here part.force1 sight.ones.items is.ones v at_one.consistent at_one.input
        ∙ beq_same (get_or sight.ones.items net.0 false) (get_or sight.zeros.items net.0 false) (not-false (beq (get_or sight.ones.items net.0 false) (get_or sight.zeros.items net.0 false)) silent)
        ∙ sym (bit_here part.force0 sight.zeros.items is.zeros u at_zero.consistent at_zero.input)
