-- What is asked about at a state, and what rows of known inputs tell.
use Rattle.std.proofs.Common.{◌≡◌, ◌≢◌, ◌⊎◌, ℕ, ◌+◌, ◌-◌, ◌<◌, ◌≤◌, Bool, inl, inr, List, [], ◌++◌, Some, length, map, drop, get_or, sym, ◌∙◌, ap, subst, arith}
use Rattle.std.specs.List.{slice_get, All, AllPairs, Contains}
use Rattle.std.proofs.lemmas.List.{map-append, drop-map}
use Rattle.std.proofs.lemmas.List.Elements.{All-append, All-map, All-contains, All-drop, Contains-append_cases, Contains-append_left, Contains-append_right}
use Rattle.std.proofs.Math.Seq.{drop-append-add}
use Rattle.std.proofs.lemmas.Option.{slice_get_within}
use Rattle.eco_lists.proofs.Places.{All_at, All_from_places, Contains_at, item_at, place_of, pair_at, pairs_from_places, pairs_front}
use Rattle.eco_meaning.specs.Circuit.{names}
use Rattle.eco_meaning.specs.Cost.{IsCandidate, IsUnpaid}
use Rattle.eco_meaning.specs.Choice.{Suffices, Precedes}
use Rattle.eco_gates.specs.declared.gate.NetId.{NetId}
use Rattle.eco_netlist.specs.Netlists.{AreNets, name_at, names_at}
use Rattle.eco_cover.specs.InPlay.{TellInPlay}
use Rattle.eco_laws.specs.Witnesses.{names_of}
use Rattle.eco_laws.specs.Front.{HasTurnBefore, HasTurnFrom, Working}
use Rattle.eco_laws.specs.Columns.{AgreeInPlay}
use Rattle.eco_laws.proofs.Front.{one_turn, working_is_listed}
use Rattle.eco_laws.proofs.ColumnLemmas.{rows_tell, working_is_in_play}
use Rattle.eco_laws.proofs.Bases.{more_suffice}
use Rattle.eco_base.specs.declared.stage.Stage.{Stage}
use Rattle.eco_base.specs.declared.state.State.{State}
use Rattle.eco_base.specs.Scenes.{Scene, IsScene, IsStage, IsConflictHere, columns_of, scene_of}
use Rattle.eco_base.specs.Asking.{AreReadableHere, names_here}
use Rattle.eco_base.specs.Fronts.{IsAt, SufficesFrom, base_from, column_at, witnesses_of}
use Rattle.eco_base.proofs.SceneLaws.{columns_are}
use Rattle.eco_base.proofs.ListLaws.{distinct_join, distinct_drop, names_of_columns}

-- what is asked about are the paid signals, those that are kept, and all whose turns come from the place on
pub base_names : (stage : Stage) (before : List (List ℕ)) (target : List ℕ) (behind : List (List ℕ)) (state : State) (place : ℕ) → IsAt (scene_of stage before target behind) state →
    names_here stage (base_from stage state (length (scene_of stage before target behind).paid + place))
    ≡ ((scene_of stage before target behind).paid ++ names_of (witnesses_of stage.problem.now.implementation state.kept.items)) ++ drop place (scene_of stage before target behind).turns
base_names stage before target behind state place at =
    let s = scene_of stage before target behind in
    let list = names stage.problem.now.implementation in
    let columns = stage.columns.items in
    let named = λ (net : NetId). name_at list net.0 in
    let fixed = state.fixed.items in
    let column = length s.paid + place in
    let all : s.paid ++ s.turns ≡ names_at list columns = columns_are stage before target behind in
    let kept = names_of (witnesses_of stage.problem.now.implementation state.kept.items) in
    let front : names_at list (map (column_at columns) fixed) ≡ s.paid ++ kept = names_of_columns list columns fixed (s.paid ++ kept) (subst (λ l. map (slice_get l) fixed ≡ map Some (s.paid ++ kept)) all at.fixed) in
    let back : names_at list (drop column columns) ≡ drop place s.turns = sym (drop-map named column columns) ∙ ap (drop column) (sym all) ∙ drop-append-add s.paid s.turns place in
    map-append named (map (column_at columns) fixed) (drop column columns)
    ∙ ap (λ l. l ++ names_at list (drop column columns)) front ∙ ap (λ l. (s.paid ++ kept) ++ l) back

-- a signal with a turn is a candidate that isn't paid
turn_in_columns : (paid turns : List (List ℕ)) (j : ℕ) (name : List ℕ) → slice_get turns j ≡ Some name → Contains (paid ++ turns) name
turn_in_columns paid turns j name at = Contains-append_right paid turns name (Contains_at turns j name at)

-- what stands in the order of distinct turns is distinct
pub ordered_distinct : (turns kept : List (List ℕ)) → AllPairs (λ a b. a ≢ b) turns → AllPairs (Precedes turns) kept → AllPairs (λ a b. a ≢ b) kept
ordered_distinct turns kept distinct ordered =
    pairs_from_places (λ a b. a ≢ b) kept (λ i j a b less at_a at_b same.
    let (k, m, before, first, second) = pair_at (Precedes turns) kept i j a b ordered less at_a at_b in
    let one : k ≡ m = one_turn turns k m a distinct first (second ∙ ap Some (sym same)) in
    omega (arith, one, before))

-- these are readable
pub base_readable : (s : Scene) (state : State) (place : ℕ) → IsScene s → (at : IsAt s state) → at.place ≤ place →
    AreReadableHere s ((s.paid ++ names_of (witnesses_of s.problem.implementation state.kept.items)) ++ drop place s.turns)
base_readable s state place scene at later = record {
  candidates = All_from_places (IsCandidate s.problem.implementation s.problem.weights s.problem.input_weight s.before) base (λ k name there.
      All-contains (IsCandidate s.problem.implementation s.problem.weights s.problem.input_weight s.before) (columns_of s) name scene.candidates
      (in_columns name ((working_is_listed (s.paid ++ kept) s.turns place name).1 (Contains_at base k name there))));
  distinct = distinct_join (s.paid ++ kept) (drop place s.turns)
      (distinct_join s.paid kept paid_distinct kept_distinct (λ name is_paid is_kept. never_paid name is_paid (kept_turn name is_kept).0 (kept_turn name is_kept).2))
      (distinct_drop place s.turns turns_are_distinct)
      (λ name first second. apart name (Contains-append_cases s.paid kept name first) (from_drop name second));
}
  where
    kept : List (List ℕ)
    kept = names_of (witnesses_of s.problem.implementation state.kept.items)

    base : List (List ℕ)
    base = (s.paid ++ kept) ++ drop place s.turns

    turns_are_distinct : AllPairs (λ a b. a ≢ b) s.turns
    turns_are_distinct = scene.are_turns.distinct

    paid_distinct : AllPairs (λ a b. a ≢ b) s.paid
    paid_distinct = pairs_front (λ a b. a ≢ b) s.paid s.turns scene.distinct

    kept_turn : (name : List ℕ) → Contains kept name → HasTurnBefore s.turns at.place name
    kept_turn name is_kept = All-contains (HasTurnBefore s.turns at.place) kept name at.front.before is_kept

    from_drop : (name : List ℕ) → Contains (drop place s.turns) name → HasTurnFrom s.turns place name
    from_drop name among = elim ((working_is_listed [] s.turns place name).1 among) [
      | inl none ↦ absurd (omega (arith, none.1))
      | inr turn ↦ turn
    ]

    never_paid : (name : List ℕ) → Contains s.paid name → (j : ℕ) → slice_get s.turns j ≡ Some name → ⊥
    never_paid name is_paid j there =
        (All_at (IsUnpaid s.problem.implementation s.problem.weights s.problem.input_weight s.before s.paid) s.turns j name scene.are_turns.sound there).unpaid is_paid

    kept_distinct : AllPairs (λ a b. a ≢ b) kept
    kept_distinct = ordered_distinct s.turns kept turns_are_distinct at.front.ordered

    apart : (name : List ℕ) → Contains s.paid name ⊎ Contains kept name → HasTurnFrom s.turns place name → ⊥
    apart name (inl is_paid) (j, from, there) = never_paid name is_paid j there
    apart name (inr is_kept) (j, from, there) =
        let (i, before, here) = kept_turn name is_kept in
        let one : i ≡ j = one_turn s.turns i j name turns_are_distinct here there in
        omega (arith, one, before, from, later)

    in_columns : (name : List ℕ) → Working (s.paid ++ kept) s.turns place name → Contains (columns_of s) name
    in_columns name (inr (j, from, there)) = turn_in_columns s.paid s.turns j name there
    in_columns name (inl among) = elim (Contains-append_cases s.paid kept name among) [
      | inl is_paid ↦ Contains-append_left s.paid s.turns name is_paid
      | inr is_kept ↦ turn_in_columns s.paid s.turns (kept_turn name is_kept).0 name (kept_turn name is_kept).2
    ]

-- and nets of f
pub base_nets : (stage : Stage) (state : State) (column : ℕ) → IsStage stage → All (λ column. column < length stage.columns.items) state.fixed.items →
    AreNets (names stage.problem.now.implementation) (base_from stage state column)
base_nets stage state column is within =
    let all = λ (net : NetId). net.0 < length (names stage.problem.now.implementation) in
    let columns = stage.columns.items in
    All-append all (map (column_at columns) state.fixed.items) (drop column columns)
    (All-map all (column_at columns) state.fixed.items (λ k d lt. is.nets (get_or state.fixed.items k d) (record { 0 = 0 }) (within k d lt)))
    (All-drop all column columns is.nets)

-- two known inputs whose rows agree on the fixed columns and those from a place on are a conflict
pub rows_conflict : (s : Scene) (state : State) (place k m : ℕ) (one other : List Bool) → IsAt s state → length state.ones.inputs ≡ length state.ones.rows → length state.zeros.inputs ≡ length state.zeros.rows →
    slice_get state.ones.rows k ≡ Some one → slice_get state.zeros.rows m ≡ Some other → AgreeInPlay state.fixed.items (length s.paid + place) one other →
    (x y : List Bool) → slice_get state.ones.inputs k ≡ Some x → slice_get state.zeros.inputs m ≡ Some y →
    IsConflictHere s (Working (s.paid ++ names_of (witnesses_of s.problem.implementation state.kept.items)) s.turns place) x y
rows_conflict s state place k m one other at count_ones count_zeros row_one row_other agree x y input_one input_other =
    let f = s.problem.implementation in
    let kept = names_of (witnesses_of f state.kept.items) in
    let known_one = at.ones k x one input_one row_one in
    let known_other = at.zeros m y other input_other row_other in
    let alike = (rows_tell f s.patches s.before (columns_of s) state.fixed.items (length s.paid + place) x y one other known_one.values known_other.values).1 agree in
    record {
      one = known_one.forced;
      zero = known_other.forced;
      alike = λ v u at_x at_y name working. alike v u at_x at_y name ((working_is_in_play s.paid s.turns kept state.fixed.items place at.fixed name).0 working);
    }

-- so the rows are told apart by what the front leaves
pub rows_are_apart : (s : Scene) (state : State) → IsAt s state → length state.ones.inputs ≡ length state.ones.rows → length state.zeros.inputs ≡ length state.zeros.rows →
    TellInPlay state.fixed.items state.from state.ones.rows state.zeros.rows
rows_are_apart s state at count_ones count_zeros one other among_ones among_zeros agree =
    let (k, row_one) = place_of state.ones.rows one among_ones in
    let (m, row_other) = place_of state.zeros.rows other among_zeros in
    let (x, input_one) = item_at state.ones.inputs k (omega (arith, count_ones, slice_get_within state.ones.rows k one row_one)) in
    let (y, input_other) = item_at state.zeros.inputs m (omega (arith, count_zeros, slice_get_within state.zeros.rows m other row_other)) in
    at.front.enough x y (rows_conflict s state at.place k m one other at count_ones count_zeros row_one row_other (subst (λ from. AgreeInPlay state.fixed.items from one other) at.from agree) x y input_one input_other)

-- where what is asked about suffices, so does the front with all from the place on
pub working_suffices : (stage : Stage) (before : List (List ℕ)) (target : List ℕ) (behind : List (List ℕ)) (state : State) (place : ℕ) → IsAt (scene_of stage before target behind) state →
    SufficesFrom stage state (length (scene_of stage before target behind).paid + place) (scene_of stage before target behind) →
    Suffices stage.problem.now.implementation stage.problem.now.goal stage.patches before target
    (Working ((scene_of stage before target behind).paid ++ names_of (witnesses_of stage.problem.now.implementation state.kept.items)) (scene_of stage before target behind).turns place)
working_suffices stage before target behind state place at enough =
    let s = scene_of stage before target behind in
    let f = stage.problem.now.implementation in
    let kept = names_of (witnesses_of f state.kept.items) in
    let base = (s.paid ++ kept) ++ drop place s.turns in
    more_suffice f stage.problem.now.goal stage.patches before target (Contains base) (Working (s.paid ++ kept) s.turns place)
    (λ name among. (working_is_listed (s.paid ++ kept) s.turns place name).1 among)
    (subst (λ list. Suffices f stage.problem.now.goal stage.patches before target (Contains list)) (base_names stage before target behind state place at) enough)

-- the column of a place
pub place_of_column : (stage : Stage) (before : List (List ℕ)) (target : List ℕ) (behind : List (List ℕ)) (state : State) (column : ℕ) → (at : IsAt (scene_of stage before target behind) state) → state.from ≤ column →
    (place : ℕ) × (column ≡ length (scene_of stage before target behind).paid + place) × (at.place ≤ place)
place_of_column stage before target behind state column at later =
    let paid = length (scene_of stage before target behind).paid in
    (column - paid, omega (arith, at.from, later), omega (arith, at.from, later))
