-- How a state goes on.
use Rattle.std.proofs.Common.{◌≡◌, ℕ, ◌+◌, ◌<◌, ◌≤◌, Bool, true, false, inl, inr, List, [], ◌∷◌, ◌++◌, Some, option_map, length, map, drop, sym, ◌∙◌, ap, subst, arith}
use Rattle.std.specs.List.{slice_get, All, Contains}
use Rattle.std.specs.Global.{Vec}
use Rattle.std.proofs.lemmas.List.{map-append, length-map, length-append, append_assoc}
use Rattle.std.proofs.lemmas.List.Elements.{All-push}
use Rattle.std.proofs.lemmas.Option.{slice_get-map, slice_get-get_or, slice_get_within}
use Rattle.eco_lists.proofs.Places.{push_cases, slice_get-back}
use Rattle.eco_meaning.specs.Circuit.{Circuit, names}
use Rattle.eco_gates.specs.declared.gate.NetId.{NetId}
use Rattle.eco_netlist.specs.Netlists.{AreNets, name_at}
use Rattle.eco_cover.specs.InPlay.{IsNext}
use Rattle.eco_cover.specs.Rows.{row_of}
use Rattle.eco_cover.specs.declared.choice.Kept.{Kept}
use Rattle.eco_laws.specs.Witnesses.{Witness, names_of}
use Rattle.eco_laws.specs.Front.{IsFront}
use Rattle.eco_laws.specs.Columns.{AgreeInPlay}
use Rattle.eco_laws.specs.Rows.{missing}
use Rattle.eco_laws.proofs.Front.{skips, keeps, working_is_listed}
use Rattle.eco_laws.proofs.ColumnLemmas.{rows_tell, working_is_in_play}
use Rattle.eco_laws.proofs.RowLemmas.{new_pairs_run_out}
use Rattle.eco_base.specs.SideValue.{SideValue}
use Rattle.eco_base.specs.declared.based.Based.{Based}
use Rattle.eco_base.specs.declared.stage.Stage.{Stage}
use Rattle.eco_base.specs.declared.state.State.{State}
use Rattle.eco_base.specs.Scenes.{Scene, AtScene, AreValuesHere, IsScene, IsStage, IsConflictHere, IsReadAt, columns_of, scene_of}
use Rattle.eco_base.specs.Asking.{AreRests, IsNewRest, names_here}
use Rattle.eco_base.specs.Fronts.{AreKeptNets, AreKnown, GoesOn, HasRows, IsAt, IsKnown, IsState, AreSeparatedAt, SufficesFrom, base_from, column_at, witness_of, witnesses_of}
use Rattle.eco_base.proofs.SceneLaws.{columns_are, read_are_values, targets_at}
use Rattle.eco_base.proofs.RestLaws.{more_rests}
use Rattle.eco_base.proofs.BaseLaws.{base_names, place_of_column, rows_conflict, working_suffices}

-- one more witness
more_witnesses : (f : Circuit) (kept : List Based) (based : Based) → witnesses_of f (kept ++ based ∷ []) ≡ witnesses_of f kept ++ witness_of f based ∷ []
more_witnesses f kept based = map-append (witness_of f) kept (based ∷ [])

-- its name
more_names : (f : Circuit) (kept : List Based) (based : Based) → names_of (witnesses_of f (kept ++ based ∷ [])) ≡ names_of (witnesses_of f kept) ++ name_at (names f) based.net.0 ∷ []
more_names f kept based = ap names_of (more_witnesses f kept based) ∙ map-append (λ (w : Witness). w.name) (witnesses_of f kept) (witness_of f based ∷ [])

-- one more net
more_nets : (list : List (List ℕ)) (kept : List Based) (based : Based) → AreNets list (map (λ (b : Based). b.net) kept) → based.net.0 < length list → AreNets list (map (λ (b : Based). b.net) (kept ++ based ∷ []))
more_nets list kept based nets within =
    subst (AreNets list) (sym (map-append (λ (b : Based). b.net) kept (based ∷ [])))
    (All-push (λ (net : NetId). net.0 < length list) (map (λ (b : Based). b.net) kept) based.net nets within)

-- one more fixed column
more_fixed : (columns paid kept : List (List ℕ)) (fixed : List ℕ) (column : ℕ) (name : List ℕ) → map (slice_get columns) fixed ≡ map Some (paid ++ kept) → slice_get columns column ≡ Some name →
    map (slice_get columns) (fixed ++ column ∷ []) ≡ map Some (paid ++ (kept ++ name ∷ []))
more_fixed columns paid kept fixed column name same at =
    map-append (slice_get columns) fixed (column ∷ []) ∙ ap (λ list. list ++ slice_get columns column ∷ []) same ∙ ap (λ item. map Some (paid ++ kept) ++ item ∷ []) at
    ∙ sym (map-append Some (paid ++ kept) (name ∷ [])) ∙ ap (map Some) (append_assoc paid kept (name ∷ []))

-- the state after a signal is kept
pub kept_at : (s : Scene) (old new : State) (based : Based) (column place : ℕ) → IsAt s old →
    IsFront s.problem.implementation s.problem.goal s.patches s.before s.target s.paid s.turns (place + 1) (witnesses_of s.problem.implementation old.kept.items ++ witness_of s.problem.implementation based ∷ []) →
    column ≡ length s.paid + place → slice_get (columns_of s) column ≡ Some (name_at (names s.problem.implementation) based.net.0) →
    new.kept.items ≡ old.kept.items ++ based ∷ [] → new.fixed.items ≡ old.fixed.items ++ column ∷ [] → new.from ≡ column + 1 → new.ones ≡ old.ones → new.zeros ≡ old.zeros → new.rests.items ≡ old.rests.items → IsAt s new
kept_at s old new based column place at front column_is named same_kept same_fixed same_from same_ones same_zeros same_rests =
    let f = s.problem.implementation in
    let witnesses : witnesses_of f new.kept.items ≡ witnesses_of f old.kept.items ++ witness_of f based ∷ [] = ap (witnesses_of f) same_kept ∙ more_witnesses f old.kept.items based in
    let all_names : names_of (witnesses_of f new.kept.items) ≡ names_of (witnesses_of f old.kept.items) ++ name_at (names f) based.net.0 ∷ [] = ap (λ list. names_of (witnesses_of f list)) same_kept ∙ more_names f old.kept.items based in
    record {
      place = place + 1;
      from = omega (arith, same_from, column_is);
      fixed = ap (map (slice_get (columns_of s))) same_fixed
          ∙ more_fixed (columns_of s) s.paid (names_of (witnesses_of f old.kept.items)) old.fixed.items column (name_at (names f) based.net.0) at.fixed named
          ∙ ap (λ list. map Some (s.paid ++ list)) (sym all_names);
      front = subst (IsFront f s.problem.goal s.patches s.before s.target s.paid s.turns (place + 1)) (sym witnesses) front;
      ones = subst (AreKnown s true) (sym same_ones) at.ones;
      zeros = subst (AreKnown s false) (sym same_zeros) at.zeros;
      rests = subst (AreRests s) (sym same_rests) at.rests;
    }

-- the name of a column
column_named : (stage : Stage) (before : List (List ℕ)) (target : List ℕ) (behind : List (List ℕ)) (column : ℕ) (net : NetId) → column < length stage.columns.items → net ≡ column_at stage.columns.items column →
    slice_get (columns_of (scene_of stage before target behind)) column ≡ Some (name_at (names stage.problem.now.implementation) net.0)
column_named stage before target behind column net within same =
    let list = names stage.problem.now.implementation in
    let columns = stage.columns.items in
    let named = λ (n : NetId). name_at list n.0 in
    ap (λ l. slice_get l column) (columns_are stage before target behind) ∙ slice_get-map named columns column
    ∙ ap (option_map named) (slice_get-get_or columns column (record { 0 = 0 }) within) ∙ ap (λ (n : NetId). Some (name_at list n.0)) (sym same)

pub keep_goes_on : (stage : Stage) (old new : State) (kept : Kept) (based : Based) → IsStage stage → IsState stage old →
    IsNext (length stage.columns.items) old.fixed.items old.from old.ones.rows old.zeros.rows kept → AtScene stage (SufficesFrom stage old kept.column) →
    new.kept.items ≡ old.kept.items ++ based ∷ [] → new.fixed.items ≡ old.fixed.items ++ kept.column ∷ [] → new.from ≡ kept.column + 1 → new.ones ≡ old.ones → new.zeros ≡ old.zeros → new.rests.items ≡ old.rests.items →
    based.net ≡ column_at stage.columns.items kept.column → slice_get old.ones.inputs kept.one ≡ Some based.one → slice_get old.zeros.inputs kept.zero ≡ Some based.zero → GoesOn stage old new
keep_goes_on stage old new kept based is state next enough same_kept same_fixed same_from same_ones same_zeros same_rests same_net one_at zero_at = record {
  state = record {
    kept = subst (AreKeptNets stage) (sym same_kept) (more_nets (names stage.problem.now.implementation) old.kept.items based state.kept
        (subst (λ (net : NetId). net.0 < length (names stage.problem.now.implementation)) (sym same_net) (is.nets kept.column (record { 0 = 0 }) next.within)));
    from = omega (arith, same_from, next.within);
    fixed = subst (All (λ column. column < length stage.columns.items)) (sym same_fixed) (All-push (λ column. column < length stage.columns.items) old.fixed.items kept.column state.fixed next.within);
    ones = subst (HasRows (length stage.columns.items)) (sym same_ones) state.ones;
    zeros = subst (HasRows (length stage.columns.items)) (sym same_zeros) state.zeros;
    scene = λ before target behind are len.
        let s = scene_of stage before target behind in
        let f = stage.problem.now.implementation in
        let goal = stage.problem.now.goal in
        let p = stage.patches in
        let at = state.scene before target behind are len in
        let scene = is.scene before target behind are len in
        let witnesses = witnesses_of f old.kept.items in
        let (place, column_is, later) = place_of_column stage before target behind old kept.column at next.behind in
        let working = working_suffices stage before target behind old place at (subst (λ column. SufficesFrom stage old column s) column_is (enough before target behind are len)) in
        let skipped = skips f goal p before target s.paid s.turns at.place place witnesses at.front later working in
        let named = column_named stage before target behind kept.column based.net next.within same_net in
        let turn : slice_get s.turns place ≡ Some (name_at (names f) based.net.0) = sym (slice_get-back s.paid s.turns kept.column place column_is) ∙ named in
        let one_row : slice_get old.ones.rows kept.one ≡ Some (row_of old.ones.rows kept.one) = slice_get-get_or old.ones.rows kept.one [] next.one_in in
        let zero_row : slice_get old.zeros.rows kept.zero ≡ Some (row_of old.zeros.rows kept.zero) = slice_get-get_or old.zeros.rows kept.zero [] next.zero_in in
        let behind_it : kept.column + 1 ≡ length s.paid + (place + 1) = omega (arith, column_is) in
        let alike = subst (λ from. AgreeInPlay old.fixed.items from (row_of old.ones.rows kept.one) (row_of old.zeros.rows kept.zero)) behind_it next.alike in
        let conflict = rows_conflict s old (place + 1) kept.one kept.zero (row_of old.ones.rows kept.one) (row_of old.zeros.rows kept.zero) at state.ones.count state.zeros.count one_row zero_row alike based.one based.zero one_at zero_at in
        let front = keeps f goal p before target s.paid s.turns place witnesses (witness_of f based)
        scene.are_turns.distinct skipped turn conflict in
        kept_at s old new based kept.column place at front column_is named same_kept same_fixed same_from same_ones same_zeros same_rests;
  };
  less = omega (arith, same_from, next.within, next.behind, ap length same_rests, ap (λ (side : SideValue). missing (length stage.columns.items) side.rows) same_ones, ap (λ (side : SideValue). missing (length stage.columns.items) side.rows) same_zeros);
}

-- one more known input
more_known : (s : Scene) (bit : Bool) (old : SideValue) (x row : List Bool) → length old.inputs ≡ length old.rows → AreKnown s bit old → IsKnown s bit x row → AreKnown s bit (record { inputs = old.inputs ++ x ∷ []; rows = old.rows ++ row ∷ [] })
more_known s bit old x row count known new k y other input_at row_at =
    elim (push_cases old.inputs x k y input_at) [
      | inl older ↦ elim (push_cases old.rows row k other row_at) [
        | inl older_row ↦ known k y other older older_row
        | inr (last, is) ↦ absurd (omega (arith, last, count, slice_get_within old.inputs k y older))
      ]
      | inr (last, is) ↦ elim (push_cases old.rows row k other row_at) [
        | inl older_row ↦ absurd (omega (arith, last, count, slice_get_within old.rows k other older_row))
        | inr (last_row, is_row) ↦ subst (λ z. IsKnown s bit z other) (sym is) (subst (λ z. IsKnown s bit x z) (sym is_row) new)
      ]
    ]

-- one more row
more_rows : (width : ℕ) (old : SideValue) (x row : List Bool) → HasRows width old → length row ≡ width → HasRows width (record { inputs = old.inputs ++ x ∷ []; rows = old.rows ++ row ∷ [] })
more_rows width old x row has long = record {
  count = length-append old.inputs (x ∷ []) ∙ ap (λ n. n + 1) has.count ∙ sym (length-append old.rows (row ∷ []));
  rows = All-push (λ (r : List Bool). length r ≡ width) old.rows row has.rows long;
}

-- a row that is read has a bit for each column
pub read_length : (stage : Stage) (x row : List Bool) → IsStage stage → AtScene stage (λ s. IsReadAt s (names_here stage stage.columns.items) x row) → length row ≡ length stage.columns.items
read_length stage x row is read =
    let (before, target, behind, are, len) = targets_at stage is in
    let (v, reached, same) = read before target behind are len in
    ap length (sym same) ∙ length-map (names_here stage stage.columns.items) v ∙ length-map stage.columns.items (λ (net : NetId). name_at (names stage.problem.now.implementation) net.0)

-- and is known
pub read_known : (stage : Stage) (x row : List Bool) (before : List (List ℕ)) (target : List ℕ) (behind : List (List ℕ)) → IsScene (scene_of stage before target behind) →
    IsReadAt (scene_of stage before target behind) (names_here stage stage.columns.items) x row → AreValuesHere (scene_of stage before target behind) (columns_of (scene_of stage before target behind)) x row
read_known stage x row before target behind scene read =
    let s = scene_of stage before target behind in
    read_are_values s (columns_of s) x row scene scene.candidates
    (subst (λ signals. IsReadAt s signals x row) (sym (columns_are stage before target behind)) read)

-- two inputs that agree on what is asked about have rows that agree in play
agree_in_play : (stage : Stage) (old : State) (column : ℕ) (x y row other : List Bool) (before : List (List ℕ)) (target : List ℕ) (behind : List (List ℕ)) → IsScene (scene_of stage before target behind) →
    IsAt (scene_of stage before target behind) old → old.from ≤ column → IsConflictHere (scene_of stage before target behind) (Contains (names_here stage (base_from stage old column))) x y →
    AreValuesHere (scene_of stage before target behind) (columns_of (scene_of stage before target behind)) x row → AreValuesHere (scene_of stage before target behind) (columns_of (scene_of stage before target behind)) y other →
    AgreeInPlay old.fixed.items column row other
agree_in_play stage old column x y row other before target behind scene at later conflict values_x values_y =
    let s = scene_of stage before target behind in
    let f = stage.problem.now.implementation in
    let kept = names_of (witnesses_of f old.kept.items) in
    let (place, column_is, no_less) = place_of_column stage before target behind old column at later in
    let base : names_here stage (base_from stage old column) ≡ (s.paid ++ kept) ++ drop place s.turns = ap (λ k. names_here stage (base_from stage old k)) column_is ∙ base_names stage before target behind old place at in
    let listed = subst (λ list. IsConflictHere s (Contains list) x y) base conflict in
    subst (λ k. AgreeInPlay old.fixed.items k row other) (sym column_is)
    ((rows_tell f s.patches before (columns_of s) old.fixed.items (length s.paid + place) x y row other values_x values_y).0
    (λ v u at_x at_y name in_play. listed.alike v u at_x at_y name
    ((working_is_listed (s.paid ++ kept) s.turns place name).0 ((working_is_in_play s.paid s.turns kept old.fixed.items place at.fixed name).1 in_play))))

pub join_goes_on : (stage : Stage) (old new : State) (column : ℕ) (x y row other : List Bool) → IsStage stage → IsState stage old → AreSeparatedAt stage old column →
    AtScene stage (λ s. IsConflictHere s (Contains (names_here stage (base_from stage old column))) x y) →
    AtScene stage (λ s. IsReadAt s (names_here stage stage.columns.items) x row) → AtScene stage (λ s. IsReadAt s (names_here stage stage.columns.items) y other) →
    new.kept ≡ old.kept → new.fixed ≡ old.fixed → new.from ≡ old.from → new.rests ≡ old.rests →
    new.ones ≡ record { inputs = old.ones.inputs ++ x ∷ []; rows = old.ones.rows ++ row ∷ [] } → new.zeros ≡ record { inputs = old.zeros.inputs ++ y ∷ []; rows = old.zeros.rows ++ other ∷ [] } → GoesOn stage old new
join_goes_on stage old new column x y row other is state told conflict read_x read_y same_kept same_fixed same_from same_rests new_ones new_zeros =
    let width = length stage.columns.items in
    let long_row = read_length stage x row is read_x in
    let long_other = read_length stage y other is read_y in
    let fresh : Contains old.ones.rows row → Contains old.zeros.rows other → ⊥ = λ among_ones among_zeros.
    let (before, target, behind, are, len) = targets_at stage is in
    let scene = is.scene before target behind are len in
    told.tell row other among_ones among_zeros
    (agree_in_play stage old column x y row other before target behind scene (state.scene before target behind are len) told.behind (conflict before target behind are len)
    (read_known stage x row before target behind scene (read_x before target behind are len)) (read_known stage y other before target behind scene (read_y before target behind are len))) in
    let fewer = new_pairs_run_out width old.ones.rows old.zeros.rows row other long_row long_other fresh in
    record {
      state = record {
        kept = subst (λ (kept : Vec Based). AreKeptNets stage kept.items) (sym same_kept) state.kept;
        from = omega (arith, same_from, state.from);
        fixed = subst (λ (fixed : Vec ℕ). All (λ column. column < width) fixed.items) (sym same_fixed) state.fixed;
        ones = subst (HasRows width) (sym new_ones) (more_rows width old.ones x row state.ones long_row);
        zeros = subst (HasRows width) (sym new_zeros) (more_rows width old.zeros y other state.zeros long_other);
        scene = λ before target behind are len.
            let s = scene_of stage before target behind in
            let f = stage.problem.now.implementation in
            let at = state.scene before target behind are len in
            let scene = is.scene before target behind are len in
            let clash = conflict before target behind are len in
            record {
              place = at.place;
              from = same_from ∙ at.from;
              fixed = ap (λ (fixed : Vec ℕ). map (slice_get (columns_of s)) fixed.items) same_fixed ∙ at.fixed ∙ ap (λ (kept : Vec Based). map Some (s.paid ++ names_of (witnesses_of f kept.items))) (sym same_kept);
              front = subst (λ (kept : Vec Based). IsFront f s.problem.goal s.patches before target s.paid s.turns at.place (witnesses_of f kept.items)) (sym same_kept) at.front;
              ones = subst (AreKnown s true) (sym new_ones) (more_known s true old.ones x row state.ones.count at.ones (record { forced = clash.one; values = read_known stage x row before target behind scene (read_x before target behind are len) }));
              zeros = subst (AreKnown s false) (sym new_zeros) (more_known s false old.zeros y other state.zeros.count at.zeros (record { forced = clash.zero; values = read_known stage y other before target behind scene (read_y before target behind are len) }));
              rests = subst (λ (rests : Vec (List Bool)). AreRests s rests.items) (sym same_rests) at.rests;
            };
      };
      less = omega (arith, same_from, ap (λ (rests : Vec (List Bool)). length rests.items) same_rests, fewer, ap (λ (side : SideValue). missing width side.rows) new_ones, ap (λ (side : SideValue). missing width side.rows) new_zeros);
    }

pub list_goes_on : (stage : Stage) (old new : State) (rest : List Bool) → IsStage stage → IsState stage old → AtScene stage (λ s. IsNewRest s old.rests.items rest) →
    new.kept ≡ old.kept → new.fixed ≡ old.fixed → new.from ≡ old.from → new.ones ≡ old.ones → new.zeros ≡ old.zeros → new.rests.items ≡ old.rests.items ++ rest ∷ [] → GoesOn stage old new
list_goes_on stage old new rest is state fresh same_kept same_fixed same_from same_ones same_zeros new_rests =
    let width = length stage.columns.items in
    let more = more_rests stage old.rests.items rest is (λ before target behind are len. (state.scene before target behind are len).rests) fresh in
    record {
      state = record {
        kept = subst (λ (kept : Vec Based). AreKeptNets stage kept.items) (sym same_kept) state.kept;
        from = omega (arith, same_from, state.from);
        fixed = subst (λ (fixed : Vec ℕ). All (λ column. column < width) fixed.items) (sym same_fixed) state.fixed;
        ones = subst (HasRows width) (sym same_ones) state.ones;
        zeros = subst (HasRows width) (sym same_zeros) state.zeros;
        scene = λ before target behind are len.
            let s = scene_of stage before target behind in
            let f = stage.problem.now.implementation in
            let at = state.scene before target behind are len in
            record {
              place = at.place;
              from = same_from ∙ at.from;
              fixed = ap (λ (fixed : Vec ℕ). map (slice_get (columns_of s)) fixed.items) same_fixed ∙ at.fixed ∙ ap (λ (kept : Vec Based). map Some (s.paid ++ names_of (witnesses_of f kept.items))) (sym same_kept);
              front = subst (λ (kept : Vec Based). IsFront f s.problem.goal s.patches before target s.paid s.turns at.place (witnesses_of f kept.items)) (sym same_kept) at.front;
              ones = subst (AreKnown s true) (sym same_ones) at.ones;
              zeros = subst (AreKnown s false) (sym same_zeros) at.zeros;
              rests = subst (AreRests s) (sym new_rests) (more.rests before target behind are len);
            };
      };
      less = omega (arith, same_from, ap length new_rests, more.less, ap (λ (side : SideValue). missing width side.rows) same_ones, ap (λ (side : SideValue). missing width side.rows) same_zeros);
    }

-- what is read, of the same nets, at the same input and as the same bits
pub read_as : (stage : Stage) (nets others : List NetId) (x y row bits : List Bool) → nets ≡ others → x ≡ y → bits ≡ row → AtScene stage (λ s. IsReadAt s (names_here stage nets) x row) → AtScene stage (λ s. IsReadAt s (names_here stage others) y bits)
read_as stage nets others x y row bits same_nets same_input same_bits read = λ before target behind are len.
    let s = scene_of stage before target behind in
    subst (λ list. IsReadAt s (names_here stage others) y list) (sym same_bits)
    (subst (λ input. IsReadAt s (names_here stage others) input row) same_input
    (subst (λ (list : List NetId). IsReadAt s (names_here stage list) x row) same_nets (read before target behind are len)))
