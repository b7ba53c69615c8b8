-- What scenes have: their columns, and values of signals in maps of the splice.
use Rattle.std.proofs.Common.{◌≡◌, ℕ, ◌<◌, Bool, false, Some, option_map, List, [], ◌∷◌, ◌++◌, length, map, take, drop, get_or, refl, sym, ◌∙◌, ap, subst}
use Rattle.std.specs.List.{slice_get, All}
use Rattle.std.proofs.lemmas.List.{map-append, length-map, take-append-drop, length-take-le}
use Rattle.std.proofs.lemmas.List.Elements.{All-head, All-tail}
use Rattle.std.proofs.lemmas.Option.{slice_get-map, slice_get-get_or, get_or_from_slice_get}
use Rattle.eco_meaning.specs.Circuit.{Circuit, Values, names, IsConsistent, AreTargets}
use Rattle.eco_meaning.specs.Patch.{Fits, splice_of}
use Rattle.eco_meaning.specs.Cost.{IsCandidate}
use Rattle.eco_meaning.specs.Choice.{IsReached}
use Rattle.eco_gates.specs.declared.gate.NetId.{NetId}
use Rattle.eco_netlist.specs.Netlists.{AreNets, bit_of, name_at, names_at}
use Rattle.eco_netlist.specs.Values.{AreValuesAt}
use Rattle.eco_laws.specs.Reached.{IsPatchOf}
use Rattle.eco_laws.proofs.Spliced.{reached_maps_are_the_splices}
use Rattle.eco_laws.proofs.Values.{values_of_reached}
use Rattle.eco_laws.proofs.AskedLemmas.{earlier_have_values}
use Rattle.eco_query.specs.Problem.{ProblemValue}
use Rattle.eco_pose.proofs.SideLaws.{names_of_splice, target_at}
use Rattle.eco_desk.specs.Engines.{EngineValue, Turned}
use Rattle.eco_base.specs.declared.stage.Stage.{Stage}
use Rattle.eco_base.specs.Scenes.{Scene, IsEngineAt, IsScene, IsStage, IsReadAt, AreValuesHere, columns_of, scene_of, splice_at}
use Rattle.eco_base.specs.Asking.{names_here}

-- a stage has targets
pub targets_at : (stage : Stage) → IsStage stage → (before : List (List ℕ)) × (target : List ℕ) × (behind : List (List ℕ)) × AreTargets stage.problem.now.implementation (before ++ target ∷ behind) × (length before ≡ stage.number)
targets_at stage is = target_at stage.problem.now.implementation stage.number is.number

-- the columns are the paid signals and the turns
pub columns_are : (stage : Stage) (before : List (List ℕ)) (target : List ℕ) (behind : List (List ℕ)) → columns_of (scene_of stage before target behind) ≡ names_here stage stage.columns.items
columns_are stage before target behind =
    let list = names stage.problem.now.implementation in
    sym (map-append (λ (net : NetId). name_at list net.0) (take stage.paid stage.columns.items) (drop stage.paid stage.columns.items))
    ∙ ap (names_at list) (take-append-drop stage.paid stage.columns.items)

-- so many are paid
pub paid_are : (stage : Stage) → IsStage stage → length (names_here stage (take stage.paid stage.columns.items)) ≡ stage.paid
paid_are stage is =
    length-map (take stage.paid stage.columns.items) (λ (net : NetId). name_at (names stage.problem.now.implementation) net.0)
    ∙ length-take-le stage.paid stage.columns.items is.paid

-- the bits at nets are the values of their names
pub bits_are_values : (list : List (List ℕ)) (v : Values) (nets : List NetId) → AreNets list nets → map (λ (net : NetId). get_or (map v list) net.0 false) nets ≡ map v (names_at list nets)
bits_are_values list v [] within = refl
bits_are_values list v (net ∷ nets) within =
    let lt : net.0 < length list = All-head (λ (net : NetId). net.0 < length list) net nets within in
    let at : slice_get (map v list) net.0 ≡ Some (v (name_at list net.0)) =
    slice_get-map v list net.0 ∙ ap (option_map v) (slice_get-get_or list net.0 [] lt) in
    cc (
      get_or_from_slice_get (map v list) net.0 (v (name_at list net.0)) false at,
      bits_are_values list v nets (All-tail (λ (net : NetId). net.0 < length list) net nets within),
    )

-- the values that a consistent map has at an input are reached there
pub filled_is_reached : (s : Scene) (n : Circuit) (x bits : List Bool) → IsPatchOf s.problem.implementation s.patches s.before → Fits s.problem.implementation s.patches (s.target ∷ s.behind) → s.patches.outputs ≡ s.before → n ≡ splice_of s.problem.implementation s.patches → AreValuesAt n x bits → IsReadAt s (names n) x bits
filled_is_reached s n x bits patch fits outputs is values =
    let f = s.problem.implementation in
    let p = s.patches in
    let v = bit_of (names n) bits in
    let reached : IsReached f p p.outputs x v = (reached_maps_are_the_splices f p (s.target ∷ s.behind) patch.sound patch.patch fits x v).1 (record {
      values = v;
      consistent = subst (λ m. IsConsistent m v) is values.consistent;
      input = sym (ap (λ (m : Circuit). map v m.inputs) is) ∙ values.input;
      agrees = λ name among. refl;
    }) in
    (v, subst (λ earlier. IsReached f p earlier x v) outputs reached, values.valued)

-- what is read at some nets of f
pub read_at_nets : (s : Scene) (n : Circuit) (nets : List NetId) (x values bits : List Bool) → n ≡ splice_of s.problem.implementation s.patches → AreNets (names s.problem.implementation) nets →
    IsReadAt s (names n) x values → bits ≡ map (λ (net : NetId). get_or values net.0 false) nets → AreNets (names n) nets → IsReadAt s (names_at (names s.problem.implementation) nets) x bits
read_at_nets s n nets x values bits is within read same inside =
    let f = s.problem.implementation in
    let (v, reached, all) = read in
    let same_names : names_at (names n) nets ≡ names_at (names f) nets = ap (λ (m : Circuit). names_at (names m) nets) is ∙ names_of_splice f s.patches nets within in
    (v, reached, ap (map v) (sym same_names) ∙ sym (bits_are_values (names n) v nets inside) ∙ ap (λ list. map (λ (net : NetId). get_or list net.0 false) nets) all ∙ sym same)

-- what is read of candidates are their values
pub read_are_values : (s : Scene) (signals : List (List ℕ)) (x bits : List Bool) → IsScene s →
    All (IsCandidate s.problem.implementation s.problem.weights s.problem.input_weight s.before) signals → IsReadAt s signals x bits → AreValuesHere s signals x bits
read_are_values s signals x bits scene candidates (v, reached, same) =
    subst (AreValuesHere s signals x) same
    (values_of_reached s.problem.implementation s.patches s.before signals
    (record { patch = scene.patch; weights = s.problem.weights; input_weight = s.problem.input_weight; candidates = candidates }) x v reached)

-- what is read of the earlier targets are their values
pub read_are_earlier : (s : Scene) (x bits : List Bool) → IsScene s → IsReadAt s s.before x bits → AreValuesHere s s.before x bits
read_are_earlier s x bits scene (v, reached, same) =
    subst (AreValuesHere s s.before x) same (earlier_have_values s.problem.implementation s.patches s.before x v scene.patch reached)

-- what an engine at the stage has spliced is the implementation with the stage's patches
pub spliced_is : (stage : Stage) (engine : EngineValue) (n : Circuit) → IsEngineAt stage engine →
    ((turned : Turned) → engine.turned ≡ Some turned → n ≡ splice_of engine.problem.implementation turned.patches) → n ≡ splice_at stage
spliced_is stage engine n at is =
    is (record { number = stage.number; patches = stage.patches }) at.turned ∙ ap (λ (problem : ProblemValue). splice_of problem.implementation stage.patches) at.same_problem
