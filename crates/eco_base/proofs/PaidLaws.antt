-- The paid signals of a stage, which can be asked about alone.
use Rattle.std.proofs.Common.{◌≢◌, ◌<◌, List, length, take, drop, sym, ◌∙◌, ap}
use Rattle.std.specs.List.{slice_get}
use Rattle.std.proofs.lemmas.List.{take-append-drop}
use Rattle.std.proofs.lemmas.List.Elements.{All-contains, Contains-append_left}
use Rattle.std.proofs.lemmas.Option.{slice_get_within}
use Rattle.eco_lists.proofs.Places.{All_at, All_from_places, Contains_at, pairs_front, slice_get-front}
use Rattle.eco_meaning.specs.Circuit.{names}
use Rattle.eco_meaning.specs.Cost.{IsCandidate}
use Rattle.eco_gates.specs.declared.gate.NetId.{NetId}
use Rattle.eco_netlist.specs.Netlists.{AreNets}
use Rattle.eco_base.specs.declared.stage.Stage.{Stage}
use Rattle.eco_base.specs.Scenes.{AtScene, IsStage, columns_of, scene_of}
use Rattle.eco_base.specs.Asking.{AreReadableHere, names_here}

-- they are nets of f
pub paid_nets : (stage : Stage) → IsStage stage → AreNets (names stage.problem.now.implementation) (take stage.paid stage.columns.items)
paid_nets stage is =
    let within = λ (net : NetId). net.0 < length (names stage.problem.now.implementation) in
    let columns = stage.columns.items in
    let front = take stage.paid columns in
    All_from_places within front (λ k net at.
    All_at within columns k net is.nets
    (ap (λ (list : List NetId). slice_get list k) (sym (take-append-drop stage.paid columns))
    ∙ slice_get-front front (drop stage.paid columns) k (slice_get_within front k net at) ∙ at))

-- and readable
pub paid_readable : (stage : Stage) → IsStage stage → AtScene stage (λ s. AreReadableHere s (names_here stage (take stage.paid stage.columns.items)))
paid_readable stage is = λ before target behind are len.
    let s = scene_of stage before target behind in
    let scene = is.scene before target behind are len in
    let Is = IsCandidate s.problem.implementation s.problem.weights s.problem.input_weight before in
    record {
      candidates = All_from_places Is s.paid (λ k name at. All-contains Is (columns_of s) name scene.candidates (Contains-append_left s.paid s.turns name (Contains_at s.paid k name at)));
      distinct = pairs_front (λ a b. a ≢ b) s.paid s.turns scene.distinct;
    }
