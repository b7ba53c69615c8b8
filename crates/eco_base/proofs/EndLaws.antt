-- How a choice begins and ends.
use Rattle.std.proofs.Common.{◌≡◌, ℕ, ◌+◌, ◌<◌, ◌≤◌, Bool, true, false, List, [], ◌∷◌, ◌++◌, Some, option_map, length, map, refl, sym, ◌∙◌, ap, subst, arith}
use Rattle.std.specs.List.{slice_get, All, Contains}
use Rattle.std.specs.Global.{Vec}
use Rattle.std.proofs.lemmas.List.{length-map, length-append, append-nil, drop_all}
use Rattle.std.proofs.lemmas.List.Elements.{All-contains, All-nil, All-weaker}
use Rattle.std.proofs.lemmas.Option.{same_Some, slice_get-map, slice_get_within}
use Rattle.eco_lists.proofs.Places.{All_at, All_from_places, item_at, same_by_places, slice_get-front}
use Rattle.eco_meaning.specs.Circuit.{Circuit, names}
use Rattle.eco_meaning.specs.Choice.{IsGreedy, IsNeeded}
use Rattle.eco_meaning.specs.Cost.{IsUnpaid}
use Rattle.eco_gates.specs.declared.gate.NetId.{NetId}
use Rattle.eco_netlist.specs.Netlists.{name_at}
use Rattle.eco_pose.specs.Stuck.{IsPosed}
use Rattle.eco_pose.specs.declared.question.Question.TheVariants.{Separate}
use Rattle.eco_laws.specs.Witnesses.{Witness, names_of, IsShownBase}
use Rattle.eco_laws.specs.Front.{IsFront}
use Rattle.eco_laws.proofs.Front.{begins, skips, ends}
use Rattle.eco_laws.proofs.Witnesses.{is_greedy, all_needed}
use Rattle.eco_laws.proofs.AskedLemmas.{none_separated}
use Rattle.eco_base.specs.Chosen.{IsBaseChosen, IsBaseFound, chosen_names}
use Rattle.eco_base.specs.Walks.{IsWalkedAt}
use Rattle.eco_base.specs.declared.based.Based.{Based}
use Rattle.eco_base.specs.declared.stage.Stage.{Stage}
use Rattle.eco_base.specs.declared.state.State.{State}
use Rattle.eco_base.specs.declared.separating.Refutation.{Refutation}
use Rattle.eco_base.specs.Scenes.{AtScene, AreTurnsBut, IsStage, scene_of}
use Rattle.eco_base.specs.Asking.{AreRests, names_here}
use Rattle.eco_base.specs.Fronts.{AreFirst, AreKeptNets, AreKnown, HasRows, IsAt, IsDone, IsKeptAtEnd, IsState, SufficesFrom, base_from, witness_of, witnesses_of}
use Rattle.eco_base.proofs.SceneLaws.{columns_are, paid_are}
use Rattle.eco_base.proofs.BaseLaws.{base_names, ordered_distinct, place_of_column, working_suffices}
use Rattle.eco_base.proofs.TurnLaws.{none_last, turns_suffice}

-- the first columns are those of the paid signals
first_are_paid : (paid turns : List (List ℕ)) (fixed : List ℕ) (count : ℕ) → AreFirst count fixed → count ≡ length paid → map (slice_get (paid ++ turns)) fixed ≡ map Some paid
first_are_paid paid turns fixed count first long =
    same_by_places (map (slice_get (paid ++ turns)) fixed) (map Some paid) (length-map fixed (slice_get (paid ++ turns)) ∙ first.len ∙ long ∙ sym (length-map paid (λ (name : List ℕ). Some name))) (λ k lt.
    let inside : k < length paid = omega (arith, lt, length-map fixed (slice_get (paid ++ turns)), first.len, long) in
    let (name, at) = item_at paid k inside in
    slice_get-map (slice_get (paid ++ turns)) fixed k ∙ ap (option_map (slice_get (paid ++ turns))) (first.here k (omega (arith, inside, long)))
    ∙ ap Some (slice_get-front paid turns k inside ∙ at) ∙ sym (slice_get-map Some paid k ∙ ap (option_map Some) at))

-- the first columns are columns
first_within : (fixed : List ℕ) (count width : ℕ) → AreFirst count fixed → count ≤ width → All (λ column. column < width) fixed
first_within fixed count width first few =
    All_from_places (λ column. column < width) fixed (λ k column at.
    let inside : k < count = omega (arith, slice_get_within fixed k column at, first.len) in
    let same : k ≡ column = same_Some k column (sym (first.here k inside) ∙ at) in
    omega (arith, inside, few, same))

-- nothing stands in the empty list
nothing_at : {X : Type 0} (k : ℕ) (x : X) → slice_get [] k ≡ Some x → ⊥
nothing_at k x at = let within = slice_get_within [] k x at in omega (arith, within)

-- the state before the first turn
pub begin_state : (stage : Stage) (state : State) → IsStage stage → AreFirst stage.paid state.fixed.items → state.from ≡ stage.paid → state.kept.items ≡ [] →
    state.ones ≡ record { inputs = []; rows = [] } → state.zeros ≡ record { inputs = []; rows = [] } → state.rests.items ≡ [] → IsState stage state
begin_state stage state is first from none_kept no_ones no_zeros no_rests = record {
  kept = subst (AreKeptNets stage) (sym none_kept) (All-nil (λ (net : NetId). net.0 < length (names stage.problem.now.implementation)));
  from = omega (arith, from, is.paid);
  fixed = first_within state.fixed.items stage.paid (length stage.columns.items) first is.paid;
  ones = subst (HasRows (length stage.columns.items)) (sym no_ones) no_rows;
  zeros = subst (HasRows (length stage.columns.items)) (sym no_zeros) no_rows;
  scene = λ before target behind are len.
      let s = scene_of stage before target behind in
      let f = stage.problem.now.implementation in
      let scene = is.scene before target behind are len in
      let count : stage.paid ≡ length s.paid = sym (paid_are stage is) in
      record {
        place = 0;
        from = from ∙ count ∙ omega arith;
        fixed = first_are_paid s.paid s.turns state.fixed.items stage.paid first count ∙ ap (map Some) (sym (append-nil s.paid))
            ∙ ap (λ list. map Some (s.paid ++ names_of (witnesses_of f list))) (sym none_kept);
        front = subst (λ list. IsFront f s.problem.goal s.patches s.before s.target s.paid s.turns 0 (witnesses_of f list)) (sym none_kept)
            (begins f s.problem.goal s.patches before target s.paid s.turns
            (turns_suffice s scene));
        ones = subst (AreKnown s true) (sym no_ones) (λ k x row at. absurd (nothing_at k x at));
        zeros = subst (AreKnown s false) (sym no_zeros) (λ k x row at. absurd (nothing_at k x at));
        rests = subst (AreRests s) (sym no_rests) (record { rows = All-nil (λ (row : List Bool). length row ≡ length behind); distinct = λ i j d less within. absurd (omega (arith, within)) });
      };
}
  where
    no_rows : HasRows (length stage.columns.items) (record { inputs = []; rows = [] })
    no_rows = record { count = refl; rows = All-nil (λ (row : List Bool). length row ≡ length stage.columns.items) }

-- the names of what is chosen are those of the witnesses
chosen_are : (f : Circuit) (kept : List Based) → names_of (witnesses_of f kept) ≡ chosen_names f kept
chosen_are f [] = refl
chosen_are f (based ∷ kept) = ap (λ rest. name_at (names f) based.net.0 ∷ rest) (chosen_are f kept)

-- the place behind all columns is behind all turns
all_turns : (stage : Stage) (before : List (List ℕ)) (target : List ℕ) (behind : List (List ℕ)) (place : ℕ) → length stage.columns.items ≡ length (scene_of stage before target behind).paid + place → length (scene_of stage before target behind).turns ≤ place
all_turns stage before target behind place is =
    let s = scene_of stage before target behind in
    omega (arith, is, ap length (columns_are stage before target behind), length-append s.paid s.turns, length-map stage.columns.items (λ (net : NetId). name_at (names stage.problem.now.implementation) net.0))

-- where what is kept suffices, it is a base that is shown
shown_at_end : (stage : Stage) (before : List (List ℕ)) (target : List ℕ) (behind : List (List ℕ)) (state : State) → IsAt (scene_of stage before target behind) state → state.from ≤ length stage.columns.items →
    SufficesFrom stage state (length stage.columns.items) (scene_of stage before target behind) →
    IsShownBase stage.problem.now.implementation stage.problem.now.goal stage.patches before target (scene_of stage before target behind).paid (scene_of stage before target behind).turns
    (witnesses_of stage.problem.now.implementation state.kept.items)
shown_at_end stage before target behind state at within enough =
    let s = scene_of stage before target behind in
    let f = stage.problem.now.implementation in
    let goal = stage.problem.now.goal in
    let p = stage.patches in
    let witnesses = witnesses_of f state.kept.items in
    let (place, column_is, later) = place_of_column stage before target behind state (length stage.columns.items) at within in
    let working = working_suffices stage before target behind state place at (subst (λ column. SufficesFrom stage state column s) column_is enough) in
    ends f goal p before target s.paid s.turns place witnesses (all_turns stage before target behind place column_is)
    (skips f goal p before target s.paid s.turns at.place place witnesses at.front later working)

-- what is asked about at the end are the paid signals and those that are chosen
base_at_end : (stage : Stage) (before : List (List ℕ)) (target : List ℕ) (behind : List (List ℕ)) (state : State) → IsAt (scene_of stage before target behind) state → state.from ≤ length stage.columns.items →
    names_here stage (base_from stage state (length stage.columns.items)) ≡ (scene_of stage before target behind).paid ++ chosen_names stage.problem.now.implementation state.kept.items
base_at_end stage before target behind state at within =
    let s = scene_of stage before target behind in
    let f = stage.problem.now.implementation in
    let kept = names_of (witnesses_of f state.kept.items) in
    let (place, column_is, later) = place_of_column stage before target behind state (length stage.columns.items) at within in
    ap (λ column. names_here stage (base_from stage state column)) column_is ∙ base_names stage before target behind state place at
    ∙ ap (λ list. (s.paid ++ kept) ++ list) (drop_all place s.turns (all_turns stage before target behind place column_is)) ∙ append-nil (s.paid ++ kept)
    ∙ ap (λ list. s.paid ++ list) (chosen_are f state.kept.items)

-- the base at the end, and its order is that of the turns
end_base : (stage : Stage) (state : State) (refutation : Refutation) → IsStage stage → IsDone stage state refutation →
    AtScene stage (λ s. IsBaseFound stage.problem.now stage.patches s.paid s.before s.target s.behind (record { new = state.kept; posed = refutation.posed; trace = refutation.trace })
    × IsGreedy stage.problem.now.implementation stage.problem.now.goal stage.patches s.before s.target s.paid s.turns (chosen_names stage.problem.now.implementation state.kept.items))
end_base stage state refutation is done = λ before target behind are len.
    let s = scene_of stage before target behind in
    let f = stage.problem.now.implementation in
    let goal = stage.problem.now.goal in
    let p = stage.patches in
    let kept = state.kept.items in
    let scene = is.scene before target behind are len in
    let at = done.state_is.scene before target behind are len in
    let nets = base_from stage state (length stage.columns.items) in
    let enough : SufficesFrom stage state (length stage.columns.items) s = none_separated f goal p before target behind state.rests.items (names_here stage nets) (done.refuted.none before target behind are len) in
    let shown = shown_at_end stage before target behind state at done.state_is.from enough in
    let named = chosen_are f kept in
    let need = all_needed f goal p before target s.paid s.turns (witnesses_of f kept) shown in
    let Is = IsUnpaid f stage.problem.now.weights stage.problem.now.input_weight before s.paid in
    let greedy = subst (IsGreedy f goal p before target s.paid s.turns) named (is_greedy f goal p before target s.paid s.turns (witnesses_of f kept) shown) in (
      record {
        nets = done.state_is.kept;
        candidates = All-weaker (Contains s.turns) Is (λ name among. All-contains Is s.turns name scene.are_turns.sound among) (chosen_names f kept) greedy.members;
        once = ordered_distinct s.turns (chosen_names f kept) scene.are_turns.distinct greedy.ordered;
        needed = All_from_places (λ (based : Based). IsNeeded f goal p before target (s.paid ++ chosen_names f kept) (name_at (names f) based.net.0) based.one based.zero) kept (λ k based there.
            subst (λ list. IsNeeded f goal p before target (s.paid ++ list) (name_at (names f) based.net.0) based.one based.zero) named
            (All_at (λ (w : Witness). IsNeeded f goal p before target (s.paid ++ names_of (witnesses_of f kept)) w.name w.one w.zero) (witnesses_of f kept) k (witness_of f based) need
            (slice_get-map (witness_of f) kept k ∙ ap (option_map (witness_of f)) there)));
        rests = state.rests.items;
        rows = at.rests.rows;
        distinct = at.rests.distinct;
        base = nets;
        base_are = base_at_end stage before target behind state at done.state_is.from;
        posed = subst (λ n. IsPosed stage.problem.now (Separate n p nets state.rests.items) refutation.posed) (sym len) done.refuted.posed;
        refuted = done.refuted.refuted;
      },
      greedy,
    )

-- in the usual order it is the greedy choice
pub base_is_chosen : (stage : Stage) (state : State) (refutation : Refutation) → IsStage stage → AtScene stage (AreTurnsBut []) → IsDone stage state refutation →
    AtScene stage (λ s. IsBaseChosen stage.problem.now stage.patches s.paid s.before s.target s.behind (record { new = state.kept; posed = refutation.posed; trace = refutation.trace }))
base_is_chosen stage state refutation is order done = λ before target behind are len.
    let s = scene_of stage before target behind in
    let f = stage.problem.now.implementation in
    let in_order = order before target behind are len in
    let (found, greedy) = end_base stage state refutation is done before target behind are len in
    record {
      found = found;
      greedy = record {
        turns = in_order.usual;
        are_turns = in_order.are_turns;
        chosen = subst (λ turns. IsGreedy f stage.problem.now.goal stage.patches before target s.paid turns (chosen_names f state.kept.items)) (in_order.put ∙ none_last in_order.usual) greedy;
      };
    }

-- in another order it is what a walk finds
pub base_is_walked : (stage : Stage) (last : List (List ℕ)) (kept : Vec Based) (refutation : Refutation) → IsStage stage → AtScene stage (AreTurnsBut last) → IsKeptAtEnd stage kept refutation →
    AtScene stage (λ s. IsWalkedAt stage.problem.now stage.patches s.paid last s.before s.target s.behind (record { new = kept; posed = refutation.posed; trace = refutation.trace }))
base_is_walked stage last kept refutation is order at_end = λ before target behind are len.
    let s = scene_of stage before target behind in
    let f = stage.problem.now.implementation in
    let in_order = order before target behind are len in
    let (found, greedy) = end_base stage at_end.state refutation is at_end.done before target behind are len in
    subst (λ (new : Vec Based). IsWalkedAt stage.problem.now stage.patches s.paid last before target behind (record { new = new; posed = refutation.posed; trace = refutation.trace })) (sym at_end.same) record {
      found = found;
      turns = in_order.usual;
      are_turns = in_order.are_turns;
      walked = subst (λ turns. IsGreedy f stage.problem.now.goal stage.patches before target s.paid turns (chosen_names f at_end.state.kept.items)) in_order.put greedy;
    }
