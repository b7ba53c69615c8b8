-- The stage that is made for a target.
use Rattle.std.proofs.Common.{◌≡◌, ℕ, ◌+◌, ◌-◌, ◌<◌, List, [], ◌∷◌, ◌++◌, length, take, drop, refl, sym, ◌∙◌, ap, subst, arith}
use Rattle.std.specs.List.{All}
use Rattle.std.specs.Global.{Vec}
use Rattle.std.proofs.lemmas.List.{length-append, length-map, length-take-le, append-nil}
use Rattle.std.proofs.lemmas.List.Elements.{All-append, All-contains, All-weaker}
use Rattle.std.proofs.Math.Seq.{take-append_seam, drop-append_seam}
use Rattle.eco_meaning.specs.Circuit.{Circuit, names, AreTargets}
use Rattle.eco_meaning.specs.Cost.{IsCandidate, IsUnpaid, AreTurns}
use Rattle.eco_meaning.specs.Patch.{OfTarget}
use Rattle.eco_gates.specs.declared.gate.NetId.{NetId}
use Rattle.eco_netlist.specs.Netlists.{AreNets, IsChecked, name_at, names_at}
use Rattle.eco_netlist.proofs.SoundNetlists.{sound_netlist}
use Rattle.eco_netlist.proofs.MisfitLemmas.{targets_unique}
use Rattle.eco_query.specs.Problem.{ProblemValue, HasTargetNumber}
use Rattle.eco_pose.specs.Questions.{AtTarget}
use Rattle.eco_desk.specs.Desks.{AreBefore}
use Rattle.eco_laws.specs.Reached.{IsPatchOf}
use Rattle.eco_base.specs.Chosen.{IsReadyToChoose}
use Rattle.eco_base.specs.Scenes.{AtScene, AreInSomeOrder, AreTurnsBut, IsScene, IsStage, scene_of}
use Rattle.eco_base.specs.Walks.{put_last}
use Rattle.eco_base.specs.Stages.{IsStageFor, with_columns}
use Rattle.eco_base.specs.declared.stage.Stage.{Stage}
use Rattle.eco_base.proofs.ListLaws.{distinct_join}
use Rattle.eco_base.proofs.TurnLaws.{none_last, some_order}
use Rattle.eco_base.proofs.PaidLaws.{paid_nets, paid_readable}

-- the patches are such of the targets before
pub patch_made : (f patches : Circuit) (before : List (List ℕ)) (target : List ℕ) (behind : List (List ℕ)) → IsChecked f → IsChecked patches → AreBefore f patches before target behind → IsPatchOf f patches before
patch_made f patches before target behind checked checked_patch are = record {
  sound = sound_netlist f checked;
  patch = sound_netlist patches checked_patch;
  later = target ∷ behind;
  fits = are.fits;
  behind = [];
  first = are.outputs ∙ sym (append-nil before);
}

-- a scene of a target that is ready
pub scene_made : (problem : ProblemValue) (patches : Circuit) (paid turns before : List (List ℕ)) (target : List ℕ) (behind : List (List ℕ)) → IsPatchOf problem.implementation patches before →
    AreTargets problem.implementation (before ++ target ∷ behind) → (before ≡ [] → patches.gates ≡ []) → IsReadyToChoose problem patches paid before target behind →
    AreInSomeOrder problem.implementation problem.weights problem.input_weight before paid turns →
    IsScene (record { problem = problem; patches = patches; before = before; target = target; behind = behind; paid = paid; turns = turns })
scene_made problem patches paid turns before target behind patch are first ready are_turns =
    let f = problem.implementation in
    record {
      targets = are;
      outputs = ready.patch.outputs;
      fits = ready.patch.fits;
      patch = patch;
      kept = ready.kept;
      candidates = All-append (IsCandidate f problem.weights problem.input_weight before) paid turns ready.candidates
          (All-weaker (IsUnpaid f problem.weights problem.input_weight before paid) (IsCandidate f problem.weights problem.input_weight before) (λ name is. is.candidate) turns are_turns.sound);
      distinct = distinct_join paid turns ready.distinct are_turns.distinct
          (λ name is_paid is_turn. (All-contains (IsUnpaid f problem.weights problem.input_weight before paid) turns name are_turns.sound is_turn).unpaid is_paid);
      are_turns = are_turns;
      first = first;
    }

module _ (stage : Stage) where
  abbrev f : Circuit
  f = stage.problem.now.implementation

  abbrev list : List (List ℕ)
  list = names stage.problem.now.implementation

  abbrev At : (List (List ℕ) → List ℕ → List (List ℕ) → Type 0) → Type 0
  At P = AtTarget stage.problem.now.implementation stage.number P

  -- the stage with these paid signals and turns, which are the usual ones in an order of their own
  module _ (paid last usual turns : List NetId) (columns : stage.columns.items ≡ paid ++ turns) (paid_is : stage.paid ≡ length paid) where
    abbrev within : NetId → Type 0
    within net = net.0 < length (names stage.problem.now.implementation)

    front : take stage.paid stage.columns.items ≡ paid
    front = ap (λ n. take n stage.columns.items) paid_is ∙ ap (take (length paid)) columns ∙ take-append_seam paid turns

    back : drop stage.paid stage.columns.items ≡ turns
    back = ap (λ n. drop n stage.columns.items) paid_is ∙ ap (drop (length paid)) columns ∙ drop-append_seam paid turns

    pub stage_with : HasTargetNumber f stage.number → AreNets list paid → AreNets list turns → At (λ before target behind. IsPatchOf f stage.patches before) → At (λ before target behind. before ≡ [] → stage.patches.gates ≡ []) →
        At (IsReadyToChoose stage.problem.now stage.patches (names_at list paid)) →
        At (λ before target behind. AreTurns f stage.problem.now.weights stage.problem.now.input_weight before (names_at list paid) (names_at list usual)) →
        names_at list turns ≡ put_last (names_at list last) (names_at list usual) → At (λ before target behind. length behind ≡ stage.later) →
        IsStageFor stage.problem.now stage.number stage.patches paid last stage
    stage_with has paid_nets turn_nets patch first ready are_turns put later =
        let problem = stage.problem.now in
        let patches = stage.patches in
        record {
          stage_is = record {
            number = has;
            nets = subst (All within) (sym columns) (All-append within paid turns paid_nets turn_nets);
            paid = omega (arith, paid_is, ap length columns, length-append paid turns);
            scene = λ before target behind are len.
                let made = scene_made problem patches (names_at list paid) (names_at list turns) before target behind (patch before target behind are len) are (first before target behind are len) (ready before target behind are len)
                (subst (AreInSomeOrder f problem.weights problem.input_weight before (names_at list paid)) (sym put) (some_order f problem.weights problem.input_weight before (names_at list paid) (names_at list last) (names_at list usual) (are_turns before target behind are len))) in
                subst (λ (nets : List NetId). IsScene (record { problem = problem; patches = patches; before = before; target = target; behind = behind; paid = names_at list nets; turns = names_at list (drop stage.paid stage.columns.items) })) (sym front)
                (subst (λ (nets : List NetId). IsScene (record { problem = problem; patches = patches; before = before; target = target; behind = behind; paid = names_at list paid; turns = names_at list nets })) (sym back) made);
            later = later;
          };
          of_problem = refl;
          of_number = refl;
          of_patches = refl;
          of_paid = front;
          order = λ before target behind are len. record {
            usual = names_at list usual;
            are_turns = subst (λ (nets : List NetId). AreTurns f problem.weights problem.input_weight before (names_at list nets) (names_at list usual)) (sym front) (are_turns before target behind are len);
            put = ap (names_at list) back ∙ put;
          };
        }

  -- the stage that is made for a target, with the usual turns
  pub stage_made : (paid turns targets : List NetId) → IsChecked f → IsChecked stage.patches → HasTargetNumber f stage.number → AreNets list paid → AreNets list turns →
      At (IsReadyToChoose stage.problem.now stage.patches (names_at list paid)) → (stage.number ≡ 0 → stage.patches.gates ≡ []) →
      OfTarget f stage.number (λ earlier target. AreTurns f stage.problem.now.weights stage.problem.now.input_weight earlier (names_at list paid) (names_at list turns)) →
      AreTargets f (names_at list targets) → stage.columns.items ≡ paid ++ turns → stage.paid ≡ length paid → stage.later ≡ length targets - stage.number - 1 →
      IsStageFor stage.problem.now stage.number stage.patches paid [] stage
  stage_made paid turns targets checked checked_patch has paid_nets turn_nets ready first are_turns named columns paid_is later =
      stage_with paid [] turns turns columns paid_is has paid_nets turn_nets
      (λ before target behind are len. patch_made f stage.patches before target behind checked checked_patch (ready before target behind are len).patch)
      (λ before target behind are len none. first (sym len ∙ ap length none))
      ready (λ before target behind are len. are_turns before target behind are len) (sym (none_last (names_at list turns)))
      (λ before target behind are len.
      omega (arith, later, ap length (targets_unique f (names_at list targets) (before ++ target ∷ behind) named are), length-append before (target ∷ behind), len, length-map targets (λ (net : NetId). name_at list net.0)))

-- the stage with its turns in another order
pub stage_reordered : (stage : Stage) (columns : Vec NetId) (last ordered : List NetId) → IsStage stage → AtScene stage (AreTurnsBut []) → AreNets (names stage.problem.now.implementation) ordered →
    names_at (names stage.problem.now.implementation) ordered ≡ put_last (names_at (names stage.problem.now.implementation) last) (names_at (names stage.problem.now.implementation) (drop stage.paid stage.columns.items)) →
    columns.items ≡ take stage.paid stage.columns.items ++ ordered →
    IsStageFor stage.problem.now stage.number stage.patches (take stage.paid stage.columns.items) last (with_columns stage columns)
stage_reordered stage columns last ordered is order nets put same =
    let list = names stage.problem.now.implementation in
    let problem = stage.problem.now in
    let paid = take stage.paid stage.columns.items in
    let usual = drop stage.paid stage.columns.items in
    stage_with (with_columns stage columns) paid last usual ordered same (sym (length-take-le stage.paid stage.columns.items is.paid)) is.number (paid_nets stage is) nets
    (λ before target behind are len. (is.scene before target behind are len).patch)
    (λ before target behind are len. (is.scene before target behind are len).first)
    (λ before target behind are len.
    let scene = is.scene before target behind are len in
    let readable = paid_readable stage is before target behind are len in
    record { patch = record { outputs = scene.outputs; fits = scene.fits }; kept = scene.kept; candidates = readable.candidates; distinct = readable.distinct })
    (λ before target behind are len.
    let here = order before target behind are len in
    subst (AreTurns problem.implementation problem.weights problem.input_weight before (names_at list paid)) (sym (here.put ∙ none_last here.usual)) here.are_turns)
    put is.later
