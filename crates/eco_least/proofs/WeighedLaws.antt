-- What can be asked of a target, and what its weights are.
use Rattle.std.proofs.Common.{◌≡◌, ◌<◌, ℕ, List, ◌++◌, Some, option_map, length, sym, ◌∙◌, ap, subst, arith}
use Rattle.std.specs.List.{slice_get, All, Contains}
use Rattle.std.proofs.lemmas.List.{map-append, length-map}
use Rattle.std.proofs.lemmas.List.Elements.{All-append, All-contains, All-weaker}
use Rattle.std.proofs.lemmas.Option.{slice_get-map, slice_get_within, same_Some}
use Rattle.std.specs.Prelude.{unwrap_or}
use Rattle.eco_lists.proofs.Members.{Contains-map, map-Contains}
use Rattle.eco_lists.proofs.Places.{All_at, All_from_places, Contains_at, item_at}
use Rattle.eco_meaning.specs.Circuit.{Circuit, names}
use Rattle.eco_meaning.specs.Cost.{AreTurns, IsCandidate, IsUnpaid, weight_of}
use Rattle.eco_gates.specs.declared.gate.NetId.{NetId}
use Rattle.eco_netlist.specs.Netlists.{AreNets, name_at, names_at}
use Rattle.eco_query.specs.Problem.{ProblemValue}
use Rattle.eco_laws.proofs.Front.{turns_distinct}
use Rattle.eco_pose.specs.Questions.{AreDistinct}
use Rattle.eco_pose.proofs.SideLaws.{target_at}
use Rattle.eco_base.proofs.ListLaws.{distinct_join}
use Rattle.eco_floor.specs.Sets.{IsFloor}
use Rattle.eco_base.specs.Targets.{AreReadableAt, TargetValue, paid_of}
use Rattle.eco_least.specs.declared.weighed.Weighed.{Weighed}
use Rattle.eco_least.specs.Weighed.{AreWeighed, IsLeast, weight_at}
use Rattle.eco_least.specs.Rows.{AreRows, IsPart, turn_names}
use Rattle.eco_least.proofs.Floors.{cost_floor}

module _ (t : TargetValue) (weighed : Weighed) (is : AreWeighed t weighed) where
  abbrev problem : ProblemValue
  problem = t.problem

  abbrev f : Circuit
  f = t.problem.implementation

  -- the turns are candidates, each once: it can be asked about them
  pub turns_readable : AreReadableAt t weighed.turns.items
  turns_readable before target behind are len =
      let turns = is.are_turns before target behind are len in
      record {
        candidates = All-weaker (IsUnpaid f problem.weights problem.input_weight before (paid_of t)) (IsCandidate f problem.weights problem.input_weight before) (λ name unpaid. unpaid.candidate) (turn_names t weighed) turns.sound;
        distinct = turns_distinct f problem.weights problem.input_weight before (paid_of t) (turn_names t weighed) turns;
      }

  -- each once
  pub turns_once : AreDistinct (turn_names t weighed)
  turns_once =
      let (before, target, behind, are, len) = target_at f t.number is.number in
      turns_distinct f problem.weights problem.input_weight before (paid_of t) (turn_names t weighed) (is.are_turns before target behind are len)

  module _ (list : List NetId) (part : IsPart t weighed list) where
    -- so are some of the turns
    pub part_nets : AreNets (names f) list
    part_nets = All_from_places (λ (net : NetId). net.0 < length (names f)) list (λ k net at. All-contains (λ (net : NetId). net.0 < length (names f)) weighed.turns.items net is.turn_nets (All_at (Contains weighed.turns.items) list k net part.turns at))

    unpaid : (before : List (List ℕ)) → AreTurns f problem.weights problem.input_weight before (paid_of t) (turn_names t weighed) →
        (name : List ℕ) → Contains (names_at (names f) list) name → IsUnpaid f problem.weights problem.input_weight before (paid_of t) name
    unpaid before turns name c =
        let (net, among, same) = map-Contains (λ (net : NetId). name_at (names f) net.0) list name c in
        subst (IsUnpaid f problem.weights problem.input_weight before (paid_of t)) same
        (All-contains (IsUnpaid f problem.weights problem.input_weight before (paid_of t)) (turn_names t weighed) (name_at (names f) net.0) turns.sound
        (Contains-map (λ (net : NetId). name_at (names f) net.0) weighed.turns.items net (All-contains (Contains weighed.turns.items) list net part.turns among)))

    -- and it can be asked about them beside the paid signals
    pub base_nets : AreNets (names f) (t.paid ++ list)
    base_nets = All-append (λ (net : NetId). net.0 < length (names f)) t.paid list is.paid_nets part_nets

    pub base_readable : AreReadableAt t (t.paid ++ list)
    base_readable before target behind are len =
        let ready = is.readable before target behind are len in
        let turns = is.are_turns before target behind are len in
        let here = unpaid before turns in
        let both = map-append (λ (net : NetId). name_at (names f) net.0) t.paid list in
        let listed = names_at (names f) list in
        record {
          candidates = subst (All (IsCandidate f problem.weights problem.input_weight before)) (sym both)
              (All-append (IsCandidate f problem.weights problem.input_weight before) (paid_of t) listed ready.candidates
              (All_from_places (IsCandidate f problem.weights problem.input_weight before) listed (λ k name at. (here name (Contains_at listed k name at)).candidate)));
          distinct = subst (λ (names : List (List ℕ)). AreDistinct names) (sym both)
              (distinct_join (paid_of t) listed ready.distinct part.distinct (λ name is_paid c. (here name c).unpaid is_paid));
        }

  -- the weight of a turn stands at its column
  stands : (k weight : ℕ) (name : List ℕ) → slice_get (turn_names t weighed) k ≡ Some name → weight_of f problem.weights problem.input_weight name ≡ Some weight → slice_get weighed.weights.items k ≡ Some weight
  stands k weight name at weighs =
      let name_of = λ (net : NetId). name_at (names f) net.0 in
      let within = slice_get_within (turn_names t weighed) k name at in
      let (net, here) = item_at weighed.turns.items k (omega (arith, within, length-map weighed.turns.items name_of)) in
      let same : name_of net ≡ name = same_Some (name_of net) name (sym (slice_get-map name_of weighed.turns.items k ∙ ap (option_map name_of) here) ∙ at) in
      ap (λ list. slice_get list k) is.weights ∙ slice_get-map (weight_at problem) weighed.turns.items k ∙ ap (option_map (weight_at problem)) here
      ∙ ap (λ n. Some (unwrap_or (weight_of f problem.weights problem.input_weight n) 0)) same ∙ ap (λ w. Some (unwrap_or w 0)) weighs

  -- what the floor of the rows is, any base costs at least
  pub floor_least : (rows : List (List ℕ)) (best : ℕ) → AreRows t weighed rows → IsFloor rows weighed.weights.items best → IsLeast t best
  floor_least rows best are_rows floor before target behind are len =
      cost_floor f problem.goal problem.weights problem.input_weight t.patches before target (paid_of t) (turn_names t weighed)
      (is.are_turns before target behind are len) weighed.weights.items stands rows best (are_rows before target behind are len) floor
