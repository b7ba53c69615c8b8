-- A needed signal is read.
use Rattle.std.proofs.Common.{◌≡◌, ◌≢◌, inl, inr, ℕ, ◌<◌, Bool, true, false, List, ◌∷◌, ◌++◌, Some, length, take, sym, ◌∙◌, ap, arith}
use Rattle.std.specs.List.{slice_get, Contains}
use Rattle.std.proofs.lemmas.Bool.{true≢false}
use Rattle.std.proofs.lemmas.Option.{slice_get_within}
use Rattle.std.proofs.lemmas.List.{length-map}
use Rattle.eco_lists.proofs.Places.{place_of, item_at, Contains_at, All_at, slice_get-take, slice_get-back}
use Rattle.eco_meaning.specs.Circuit.{Circuit, Values, names, AgreeOn}
use Rattle.eco_meaning.specs.Meaning.{Goal}
use Rattle.eco_meaning.specs.Choice.{IsReached, IsNeeded}
use Rattle.eco_gates.specs.declared.gate.NetId.{NetId}
use Rattle.eco_netlist.specs.Netlists.{IsChecked, name_at, names_at}
use Rattle.eco_aig.specs.declared.edge.Edge.{Edge}
use Rattle.eco_aig.specs.Graph.{IsEdge, inputs_of}
use Rattle.eco_aig.proofs.Filling.{bit_agree}
use Rattle.eco_aig.specs.Reached.{itself}
use Rattle.eco_laws.specs.Kept.{HasAllForcedBits}
use Rattle.eco_laws.proofs.Reaching.{reach}
use Rattle.eco_functions.specs.Functions.{FunctionsValue, AreFunctions}
use Rattle.eco_functions.specs.Standing.{IsPatchWith}
use Rattle.eco_progress.specs.Steps.{IsRead, NeededAreRead}
use Rattle.eco_progress.proofs.Listing.{targets_listed}
use Rattle.eco_progress.proofs.Reading.{cases_read}
use Rattle.eco_functions.proofs.InputBits.{AgreeAtReached, same_at_reached}
use Rattle.eco_progress.proofs.Valued.{patch_of, IsValued, valued_at, base_input, input_bit}

module _ (f : Circuit) (goal : Goal) (functions : FunctionsValue) (p : Circuit) (are : AreFunctions functions) (is : IsPatchWith f functions p) (before : List (List ℕ)) (target : List ℕ) (count : ℕ) (at_count : slice_get functions.counts (length before) ≡ Some count) (name : List ℕ) (x y : List Bool) (needed : IsNeeded f goal p before target (take count (names_at (names f) functions.base)) name x y) (unread : IsRead p name → ⊥) where
  -- the inputs of the graph that the target's root reaches have the same bits at x as at y
  alike : (root : Edge) → slice_get functions.roots (length before) ≡ Some root → (v u w o : Values) → IsReached f p before x v → IsReached f p before y u → AgreeOn p.inputs v w → AgreeOn p.inputs u o → (first : IsValued functions p w) (second : IsValued functions p o) → AgreeAtReached functions.nodes first.bits second.bits root.node
  alike root at_root v u w o at_x at_y v_w u_o first second number c reaches =
      let base = names_at (names f) functions.base in
      let place = place_of (inputs_of functions.nodes) number c in
      let less : place.0 < count = are.reach (length before) count root place.0 number at_root at_count place.1 reaches in
      let within = slice_get_within (inputs_of functions.nodes) place.0 number place.1 in
      let inputs = are.inputs in
      let nets = length-map functions.base (λ (net : NetId). name_at (names f) net.0) in
      let other = item_at base place.0 (omega (arith, within, inputs, nets)) in
      let differs : other.0 ≢ name = λ same. unread (is.reads place.0 number name place.1 (other.1 ∙ ap Some same) (root, Contains_at functions.roots (length before) root at_root, reaches)) in
      let listed : Contains (take count base) other.0 = Contains_at (take count base) place.0 other.0 (slice_get-take count base place.0 other.0 less other.1) in
      let input = base_input f functions p are is place.0 other.0 other.1 in
      sym (input_bit f functions p are is w first place.0 number other.0 other.1 place.1)
      ∙ sym (v_w other.0 input)
      ∙ needed.alike v u at_x at_y other.0 (listed, differs)
      ∙ u_o other.0 input
      ∙ input_bit f functions p are is o second place.0 number other.0 other.1 place.1

  -- so a patch that has the forced bits can't be
  clash : IsChecked f → HasAllForcedBits f goal p → (behind : List (List ℕ)) → p.outputs ≡ before ++ target ∷ behind → ⊥
  clash checked has behind cut =
      let targets = targets_listed f checked in
      let patch = patch_of f functions p checked is targets.0 before (target ∷ behind) targets.1 cut in
      let at_x = reach f p before patch x (λ n. false) needed.one.len in
      let at_y = reach f p before patch y (λ n. false) needed.zero.len in
      let w = at_x.1.follows in
      let o = at_y.1.follows in
      let first = valued_at f functions p are is w.0 w.1 in
      let second = valued_at f functions p are is o.0 o.1 in
      let within = slice_get_within functions.counts (length before) count at_count in
      let counts = are.count in
      let root = item_at functions.roots (length before) (omega (arith, within, counts)) in
      let edge : IsEdge functions.nodes root.0 = All_at (IsEdge functions.nodes) functions.roots (length before) root.0 are.edges root.1 in
      let agree = alike root.0 root.1 at_x.0 at_y.0 w.0 o.0 at_x.1 at_y.1 w.2 o.2 first second in
      let same : first.bits root.0.node ≡ second.bits root.0.node =
      same_at_reached functions.nodes first.bits second.bits root.0.node are.graph first.valuation second.valuation agree root.0.node edge itself in
      let at_target : slice_get p.outputs (length before) ≡ Some target =
      ap (λ l. slice_get l (length before)) cut ∙ slice_get-back before (target ∷ behind) (length before) 0 (omega arith) in
      let one : w.0 target ≡ true = has before target behind cut x true needed.one at_x.0 w.0 at_x.1 w.1 w.2 in
      let zero_bit : o.0 target ≡ false = has before target behind cut y false needed.zero at_y.0 o.0 at_y.1 o.1 o.2 in
      true≢false (
      sym one
      ∙ first.roots (length before) target root.0 at_target root.1
      ∙ bit_agree first.bits second.bits root.0 same
      ∙ sym (second.roots (length before) target root.0 at_target root.1)
      ∙ zero_bit
      )

-- so some gate reads the name
pub needed_are_read : NeededAreRead
needed_are_read f goal functions p checked are is has before target behind cut count at_count name x y listed needed =
    elim (cases_read p.gates name) [
      | inl read ↦ read
      | inr unread ↦ absurd (clash f goal functions p are is before target count at_count name x y needed unread checked has behind cut)
    ]
