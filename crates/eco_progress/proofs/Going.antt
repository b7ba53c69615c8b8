-- One target more has a function: what was said of the targets before it stands, and f stays rectifiable where the function is an
-- interpolant.
use Rattle.std.proofs.Common.{◌≡◌, ℕ, ◌+◌, ◌<◌, Bool, true, false, List, [], ◌∷◌, ◌++◌, Some, length, take, map, sym, ◌∙◌, ap, subst, arith}
use Rattle.std.specs.List.{slice_get, All, Contains}
use Rattle.std.proofs.lemmas.Option.{slice_get_within}
use Rattle.std.proofs.lemmas.List.{append_assoc, append-nil, map-append, length-map, length_push, take_at}
use Rattle.std.proofs.lemmas.List.Elements.{Contains-append_left}
use Rattle.eco_lists.proofs.Places.{place_of, item_at, Contains_at, map_agree, slice_get-append_left, slice_get-push_last}
use Rattle.eco_meaning.specs.Circuit.{Circuit, Values, names, IsConsistent, AgreeOn}
use Rattle.eco_meaning.specs.Meaning.{Goal}
use Rattle.eco_meaning.specs.Cost.{Weights, IsCandidate}
use Rattle.eco_meaning.specs.Choice.{AreValues}
use Rattle.eco_trace.specs.Clauses.{Valuation}
use Rattle.eco_trace.specs.Split.{IsModelOf}
use Rattle.eco_gates.specs.declared.gate.NetId.{NetId}
use Rattle.eco_netlist.specs.Netlists.{name_at, names_at}
use Rattle.eco_netlist.proofs.SoundNetlists.{sound_netlist}
use Rattle.eco_aig.specs.Graph.{inputs_of}
use Rattle.eco_tseitin.specs.Reading.{read_vars}
use Rattle.eco_pose.specs.Posing.{sides_of}
use Rattle.eco_laws.specs.Reached.{IsPatchOf}
use Rattle.eco_laws.specs.Parts.{IsPartOf, LeavesTheSame, CarriesOver}
use Rattle.eco_laws.specs.Functions.{AreReadable}
use Rattle.eco_laws.specs.Kept.{HasForcedBits}
use Rattle.eco_laws.specs.Asked.{IsForcedAmong}
use Rattle.eco_laws.proofs.Reaching.{takes_any_inputs}
use Rattle.eco_laws.proofs.Keeping.{keep}
use Rattle.eco_laws.proofs.Shares.{parts_leave_the_same, choices_stand, forced_back}
use Rattle.eco_laws.proofs.Values.{values_of_reached}
use Rattle.eco_functions.specs.Functions.{FunctionsValue}
use Rattle.eco_progress.specs.Steps.{IsNextPatch, IsFromAnswer, InterpolantsKeep, EarlierStand}
use Rattle.eco_progress.proofs.Valued.{patch_of, IsValued, count_inputs, valued_at}

module _ (f : Circuit) (before : List (List ℕ)) (target : List ℕ) (behind : List (List ℕ)) (old : FunctionsValue) (more : List NetId) (new : FunctionsValue) (p q : Circuit) (step : IsNextPatch f before target behind old more new p q) where
  -- the targets of the two patches
  first_outputs : p.outputs ≡ before
  first_outputs = (step.first.fits (before ++ target ∷ behind) step.targets).0 ∙ take_at before (target ∷ behind) (length old.roots) (sym step.count)

  -- the graph that went on has a root more
  roots_count : length new.roots ≡ length before + 1
  roots_count = step.more.roots ∙ ap (λ n. n + 1) step.count

  next_outputs : q.outputs ≡ before ++ target ∷ []
  next_outputs =
      (step.next.fits (before ++ target ∷ behind) step.targets).0
      ∙ ap (take (length new.roots)) (sym (append_assoc before (target ∷ []) behind))
      ∙ take_at (before ++ target ∷ []) behind (length new.roots) (length_push before target ∙ sym roots_count)

  -- what the second patch reads beside the inputs of the first
  abbrev added : List (List ℕ)
  added = names_at (names f) more

  next_inputs : q.inputs ≡ p.inputs ++ added
  next_inputs =
      step.next.inputs
      ∙ ap (names_at (names f)) step.more.base
      ∙ map-append (λ (net : NetId). name_at (names f) net.0) old.base more
      ∙ ap (λ l. l ++ names_at (names f) more) (sym step.first.inputs)

  -- at maps that agree on the first patch's inputs the graphs' inputs have the same bits as far as both have them
  same_inputs : (w o : Values) (first : IsValued old p w) (second : IsValued new q o) → AgreeOn p.inputs w o → map first.bits (inputs_of old.nodes) ≡ take (length old.base) (map second.bits (inputs_of new.nodes))
  same_inputs w o first second same =
      let count : length (map o p.inputs) ≡ length old.base = length-map p.inputs o ∙ count_inputs f old p step.old_functions step.first in
      let front : take (length old.base) (map o p.inputs ++ map o added) ≡ map o p.inputs = take_at (map o p.inputs) (map o added) (length old.base) count in
      let all : map o p.inputs ++ map o added ≡ map second.bits (inputs_of new.nodes) = sym (map-append o p.inputs added) ∙ ap (map o) (sym next_inputs) ∙ second.inputs in
      sym first.inputs
      ∙ map_agree w o p.inputs (λ i name at. same name (Contains_at p.inputs i name at))
      ∙ sym front
      ∙ ap (take (length old.base)) all

  -- the targets of the first patch have the same bits in both
  same_target : (w o : Values) → IsConsistent p w → IsConsistent q o → AgreeOn p.inputs w o → AgreeOn before w o
  same_target w o of_p of_q same name c =
      let first = valued_at f old p step.old_functions step.first w of_p in
      let second = valued_at f new q step.new_functions step.next o of_q in
      let place = place_of before name c in
      let within : place.0 < length before = slice_get_within before place.0 name place.1 in
      let count = step.count in
      let more_count = roots_count in
      let root = item_at old.roots place.0 (omega (arith, within, count)) in
      let now = item_at new.roots place.0 (omega (arith, within, more_count)) in
      let at_p : slice_get p.outputs place.0 ≡ Some name = ap (λ l. slice_get l place.0) first_outputs ∙ place.1 in
      let at_q : slice_get q.outputs place.0 ≡ Some name = ap (λ l. slice_get l place.0) next_outputs ∙ slice_get-append_left before (target ∷ []) place.0 name place.1 in
      first.roots place.0 name root.0 at_p root.1
      ∙ step.more.values first.bits second.bits first.valuation second.valuation (same_inputs w o first second same) place.0 root.0 now.0 root.1 now.1
      ∙ sym (second.roots place.0 name now.0 at_q now.1)

  -- the first patch is a part of the second
  part : IsPartOf p q before
  part = record {
    reads = λ name c. subst (λ (l : List (List ℕ)). Contains l name) (sym next_inputs) (Contains-append_left p.inputs added name c);
    alike = same_target;
  }

  -- so is it of the first of its targets
  part_of_first : (first rest : List (List ℕ)) → before ≡ first ++ rest → IsPartOf p q first
  part_of_first first rest cut = record {
    reads = part.reads;
    alike = λ w o of_p of_q same name c. same_target w o of_p of_q same name (subst (λ (l : List (List ℕ)). Contains l name) (sym cut) (Contains-append_left first rest name c));
  }

  -- both patches leave the same maps, as far as these targets go
  leaves_the_same : (first : List (List ℕ)) → IsPartOf p q first → LeavesTheSame f p q first
  leaves_the_same first is =
      parts_leave_the_same f p q first (takes_any_inputs p (sound_netlist p step.first.checked)) (takes_any_inputs q (sound_netlist q step.next.checked)) is

  -- what is said of them stands, and the other way about
  pub stand : (first rest : List (List ℕ)) → before ≡ first ++ rest → CarriesOver f p q first × CarriesOver f q p first
  stand first rest cut = choices_stand f p q first (leaves_the_same first (part_of_first first rest cut))

  -- both are patches of f: of the targets before this one, and of this one too
  patch_before : IsPatchOf f p before
  patch_before = patch_of f old p step.implementation step.first (before ++ target ∷ behind) before [] step.targets (first_outputs ∙ sym (append-nil before))

  patch_next : IsPatchOf f q (before ++ target ∷ [])
  patch_next = patch_of f new q step.implementation step.next (before ++ target ∷ behind) (before ++ target ∷ []) [] step.targets (next_outputs ∙ sym (append-nil (before ++ target ∷ [])))

  module _ (goal : Goal) (answer : IsFromAnswer f goal before target behind new p) where
    -- the base signals
    abbrev signals : List (List ℕ)
    signals = names_at (names f) new.base

    -- an input that forces a bit is read from a model of the bit's side
    model : (x bits : List Bool) (bit : Bool) → IsForcedAmong f goal p before target behind answer.rests x bit → AreValues f p before signals x bits → (v : Valuation) × IsModelOf (sides_of answer.posed) bit v × (read_vars v answer.posed.shared ≡ bits)
    model x bits true forced values = let found = answer.asks.one.complete x bits forced values in (found.0, found.1, found.3)
    model x bits false forced values = let found = answer.asks.other.complete x bits forced values in (found.0, found.1, found.3)

    -- the second patch's function for the target has the bits that are forced
    forced_bits : (w : Weights) (input_weight : ℕ) → All (IsCandidate f w input_weight before) signals → HasForcedBits f goal q before target
    forced_bits weights input_weight candidates x bit forced v w reached of_q v_w =
        let same = leaves_the_same before part in
        let here = forced_back f p q before same goal target x bit forced in
        let readable : AreReadable f p before signals = record { patch = patch_before; weights = weights; input_weight = input_weight; candidates = candidates } in
        let values = values_of_reached f p before signals readable x v ((same x v).1 reached) in
        let among : IsForcedAmong f goal p before target behind answer.rests x bit = record { len = here.len; never = λ u at other listed right. here.never u at other right } in
        let found = model x (map v signals) bit among values in
        let valued = valued_at f new q step.new_functions step.next w of_q in
        let count = roots_count in
        let root = item_at new.roots (length before) (omega (arith, count)) in
        let bits : map v signals ≡ map valued.bits (inputs_of new.nodes) =
        ap (map v) (sym step.next.inputs) ∙ map_agree v w q.inputs (λ i name at. v_w name (Contains_at q.inputs i name at)) ∙ valued.inputs in
        valued.roots (length before) target root.0 (ap (λ l. slice_get l (length before)) next_outputs ∙ slice_get-push_last before target) root.1
        ∙ answer.between (length before) root.0 (sym count) root.1 bit valued.bits found.0 valued.valuation found.1 (found.2 ∙ bits)

-- so earlier targets keep what they have
pub earlier_stand : EarlierStand
earlier_stand f before target behind old more new p q step first rest cut = stand f before target behind old more new p q step first rest cut

-- and f stays rectifiable
pub interpolants_keep : InterpolantsKeep
interpolants_keep f goal w input_weight before target behind old more new p q step answer candidates kept =
    keep f goal q before target (patch_next f before target behind old more new p q step)
    (forced_bits f before target behind old more new p q step goal answer w input_weight candidates)
    ((stand f before target behind old more new p q step before [] (sym (append-nil before))).0.kept goal kept)
