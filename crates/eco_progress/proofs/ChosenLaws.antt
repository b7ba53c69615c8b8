-- What a chosen base has, and how it is reported.
use Rattle.std.proofs.Common.{◌≡◌, ◌<◌, ℕ, Some, List, [], ◌∷◌, ◌++◌, length, map, refl, ◌∙◌, ap}
use Rattle.std.specs.Prelude.{unwrap_or}
use Rattle.std.specs.List.{All}
use Rattle.std.proofs.lemmas.List.{append-nil}
use Rattle.std.proofs.lemmas.List.Elements.{All-contains, All-map, All-weaker, All-nil, All-cons, All-head, All-tail}
use Rattle.eco_meaning.specs.Circuit.{Circuit, names}
use Rattle.eco_meaning.specs.Cost.{IsCandidate, IsUnpaid, weight_of}
use Rattle.eco_meaning.specs.Choice.{IsNeeded}
use Rattle.eco_meaning.specs.Report.{BaseSignal, signals_in}
use Rattle.eco_lists.proofs.Values.{some_value}
use Rattle.eco_gates.specs.declared.gate.NetId.{NetId}
use Rattle.eco_netlist.specs.Netlists.{AreNets, names_at}
use Rattle.eco_query.specs.Problem.{ProblemValue}
use Rattle.eco_pose.specs.Questions.{AreDistinct}
use Rattle.eco_base.specs.declared.based.Based.{Based}
use Rattle.eco_base.specs.declared.choosing.Chosen.{Chosen}
use Rattle.eco_base.specs.Chosen.{IsBaseFound, chosen_names}
use Rattle.eco_base.proofs.ListLaws.{distinct_join}
use Rattle.eco_progress.specs.Reported.{IsNet, IsWeighted, nets_in, signal_name, reported_as, reported_group, weight_at}

-- signals whose names are candidates have weights
weighted_all : (problem : ProblemValue) (earlier : List (List ℕ)) (new : List Based) →
    All (IsCandidate problem.implementation problem.weights problem.input_weight earlier) (names_at (names problem.implementation) (nets_in new)) → All (IsWeighted problem) new
weighted_all problem earlier [] all = All-nil (IsWeighted problem)
weighted_all problem earlier (based ∷ new) all =
    let Is = IsCandidate problem.implementation problem.weights problem.input_weight earlier in
    All-cons (IsWeighted problem) based new
    (All-head Is (signal_name problem based) (names_at (names problem.implementation) (nets_in new)) all).weighted
    (weighted_all problem earlier new (All-tail Is (signal_name problem based) (names_at (names problem.implementation) (nets_in new)) all))

-- signals are nets where their nets are
pub nets_all : (problem : ProblemValue) (new : List Based) → AreNets (names problem.implementation) (nets_in new) → All (IsNet problem) new
nets_all problem [] all = All-nil (IsNet problem)
nets_all problem (based ∷ new) all =
    let Is = λ (net : NetId). net.0 < length (names problem.implementation) in
    All-cons (IsNet problem) based new (All-head Is based.net (nets_in new) all) (nets_all problem new (All-tail Is based.net (nets_in new) all))

-- the names that are reported
names_reported : (problem : ProblemValue) (new : List Based) →
    map (λ (b : BaseSignal). b.signal) (map (reported_as problem) new) ≡ names_at (names problem.implementation) (nets_in new)
names_reported problem [] = refl
names_reported problem (based ∷ new) = ap (λ l. signal_name problem based ∷ l) (names_reported problem new)

pub group_signals : (problem : ProblemValue) (target : List ℕ) (new : List Based) →
    signals_in (reported_group problem target new ∷ []) ≡ names_at (names problem.implementation) (nets_in new)
group_signals problem target new =
    ap (map (λ (b : BaseSignal). b.signal)) (append-nil (map (reported_as problem) new)) ∙ names_reported problem new

pub weights_reported : (problem : ProblemValue) (new : List Based) → All (IsWeighted problem) new →
    All (λ (b : BaseSignal). weight_of problem.implementation problem.weights problem.input_weight b.signal ≡ Some b.weight) (map (reported_as problem) new)
weights_reported problem new weighted =
    All-map (λ (b : BaseSignal). weight_of problem.implementation problem.weights problem.input_weight b.signal ≡ Some b.weight) (reported_as problem) new
    (All-weaker (IsWeighted problem) (λ (based : Based). weight_at problem based ≡ Some (unwrap_or (weight_at problem based) 0))
    (λ based some. some_value (weight_at problem based) 0 some) new weighted)

module _ (problem : ProblemValue) (p : Circuit) (paid before : List (List ℕ)) (target : List ℕ) (behind : List (List ℕ)) (chosen : Chosen) (is : IsBaseFound problem p paid before target behind chosen) where
  -- the signals are candidates
  pub chosen_are_candidates : All (IsCandidate problem.implementation problem.weights problem.input_weight before) (chosen_names problem.implementation chosen.new.items)
  chosen_are_candidates =
      All-weaker (IsUnpaid problem.implementation problem.weights problem.input_weight before paid) (IsCandidate problem.implementation problem.weights problem.input_weight before)
      (λ name unpaid. unpaid.candidate) (chosen_names problem.implementation chosen.new.items) is.candidates

  -- each of them stands once, and none is paid
  pub all_distinct : AreDistinct paid → AreDistinct (paid ++ chosen_names problem.implementation chosen.new.items)
  all_distinct distinct =
      let kept = chosen_names problem.implementation chosen.new.items in
      distinct_join paid kept distinct is.once (λ name is_paid is_kept.
      (All-contains (IsUnpaid problem.implementation problem.weights problem.input_weight before paid) kept name is.candidates is_kept).unpaid is_paid)

  -- they have weights
  pub are_weighted : All (IsWeighted problem) chosen.new.items
  are_weighted = weighted_all problem before chosen.new.items chosen_are_candidates

  -- what is reported of them is true
  pub needed_reported : All (λ (b : BaseSignal). IsNeeded problem.implementation problem.goal p before target
      (paid ++ chosen_names problem.implementation chosen.new.items) b.signal b.force1 b.force0) (map (reported_as problem) chosen.new.items)
  needed_reported =
      All-map (λ (b : BaseSignal). IsNeeded problem.implementation problem.goal p before target
      (paid ++ chosen_names problem.implementation chosen.new.items) b.signal b.force1 b.force0) (reported_as problem) chosen.new.items is.needed
