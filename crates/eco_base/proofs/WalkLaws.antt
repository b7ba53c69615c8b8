-- Inputs that are known: how they come into a state and go on, and the values of signals there.
use Rattle.std.proofs.Common.{◌≡◌, ℕ, ◌<◌, Bool, true, false, List, [], ◌∷◌, ◌++◌, Option, None, Some, get_or, length, map, sym, ◌∙◌, ap, subst, arith}
use Rattle.std.specs.List.{slice_get, All, AllZip}
use Rattle.std.specs.Option.{IfSome}
use Rattle.std.specs.Global.{Vec}
use Rattle.std.proofs.lemmas.List.Elements.{All-nil, All-push, All-weaker, AllZip-get_or, length_all_zip}
use Rattle.std.proofs.lemmas.Option.{get_or_from_slice_get, slice_get_within}
use Rattle.eco_lists.proofs.Places.{All_at, All_from_places, item_at}
use Rattle.eco_meaning.specs.Circuit.{Circuit, names, AreTargets}
use Rattle.eco_meaning.specs.Choice.{AreValues}
use Rattle.eco_gates.specs.declared.gate.NetId.{NetId}
use Rattle.eco_netlist.specs.Netlists.{AreNets, names_at}
use Rattle.eco_query.specs.Problem.{ProblemValue}
use Rattle.eco_pose.specs.Questions.{AtTarget}
use Rattle.eco_pose.proofs.SideLaws.{nets_of_splice}
use Rattle.eco_laws.specs.Front.{IsFront}
use Rattle.eco_laws.specs.Witnesses.{names_of}
use Rattle.eco_laws.proofs.Values.{values_of_reached}
use Rattle.eco_base.specs.SideValue.{SideValue}
use Rattle.eco_base.specs.declared.based.Based.{Based}
use Rattle.eco_base.specs.declared.stage.Stage.{Stage}
use Rattle.eco_base.specs.declared.state.State.{State}
use Rattle.eco_base.specs.declared.known.Known.{Known}
use Rattle.eco_base.specs.declared.separating.Refutation.{Refutation}
use Rattle.eco_base.specs.Scenes.{Scene, AtScene, AreForcing, IsForcedHere, IsScene, IsStage, columns_of, scene_of, splice_at}
use Rattle.eco_base.specs.Asking.{AreReadableHere, AreRests, names_here}
use Rattle.eco_base.specs.Fronts.{AreKeptNets, AreKnown, HasRows, IsColumnRow, IsDone, IsKeptAtEnd, IsState, witnesses_of}
use Rattle.eco_base.specs.Walks.{AreKnownFor, AreRowsAt, IsRowOf}
use Rattle.eco_base.proofs.SceneLaws.{filled_is_reached, read_at_nets, targets_at}
use Rattle.eco_base.proofs.StateLaws.{read_known, read_length}

-- no inputs force the target
pub none_forcing : (s : Scene) (side other : SideValue) → side ≡ record { inputs = []; rows = [] } → other ≡ record { inputs = []; rows = [] } → AreForcing s side.inputs other.inputs
none_forcing s side other none none_other = record {
  ones = subst (λ (empty : SideValue). All (λ x. IsForcedHere s x true) empty.inputs) (sym none) (All-nil (λ (x : List Bool). IsForcedHere s x true));
  zeros = subst (λ (empty : SideValue). All (λ x. IsForcedHere s x false) empty.inputs) (sym none_other) (All-nil (λ (x : List Bool). IsForcedHere s x false));
}

-- one more input that forces it to 1
pub more_ones : (s : Scene) (ones zeros : List (List Bool)) (x : List Bool) → AreForcing s ones zeros → IsForcedHere s x true → AreForcing s (ones ++ x ∷ []) zeros
more_ones s ones zeros x forcing forced = record { ones = All-push (λ (y : List Bool). IsForcedHere s y true) ones x forcing.ones forced; zeros = forcing.zeros }

-- and to 0
pub more_zeros : (s : Scene) (ones zeros : List (List Bool)) (x : List Bool) → AreForcing s ones zeros → IsForcedHere s x false → AreForcing s ones (zeros ++ x ∷ [])
more_zeros s ones zeros x forcing forced = record { ones = forcing.ones; zeros = All-push (λ (y : List Bool). IsForcedHere s y false) zeros x forcing.zeros forced }

-- the same inputs force it
pub forcing_as : (stage : Stage) (ones others zeros rest : List (List Bool)) → ones ≡ others → zeros ≡ rest → AtScene stage (λ s. AreForcing s others rest) → AtScene stage (λ s. AreForcing s ones zeros)
forcing_as stage ones others zeros rest same_ones same_zeros forcing = λ before target behind are len.
    let s = scene_of stage before target behind in
    subst (λ list. AreForcing s list zeros) (sym same_ones) (subst (AreForcing s others) (sym same_zeros) (forcing before target behind are len))

-- what is known forces the target of the stage
pub known_forcing : (stage : Stage) (problem : ProblemValue) (number : ℕ) (patches : Circuit) (known : Known) → stage.problem.now ≡ problem → stage.number ≡ number → stage.patches ≡ patches →
    AreKnownFor problem number patches known → AtScene stage (λ s. AreForcing s known.ones.items known.zeros.items)
known_forcing stage problem number patches known same_problem same_number same_patches are_known =
    let here = subst (λ (p : Circuit). AreKnownFor stage.problem.now stage.number p known) (sym same_patches)
    (subst (λ n. AreKnownFor stage.problem.now n patches known) (sym same_number)
    (subst (λ (q : ProblemValue). AreKnownFor q number patches known) (sym same_problem) are_known)) in
    λ before target behind are len. record { ones = (here before target behind are len).ones; zeros = (here before target behind are len).zeros }

-- and what forces it is known
pub forcing_known : (stage : Stage) (problem : ProblemValue) (number : ℕ) (patches : Circuit) (known : Known) → stage.problem.now ≡ problem → stage.number ≡ number → stage.patches ≡ patches →
    AtScene stage (λ s. AreForcing s known.ones.items known.zeros.items) → AreKnownFor problem number patches known
forcing_known stage problem number patches known same_problem same_number same_patches forcing =
    let here : AreKnownFor stage.problem.now stage.number stage.patches known =
    λ before target behind are len. record { ones = (forcing before target behind are len).ones; zeros = (forcing before target behind are len).zeros } in
    subst (λ (q : ProblemValue). AreKnownFor q number patches known) same_problem
    (subst (λ n. AreKnownFor stage.problem.now n patches known) same_number
    (subst (λ (p : Circuit). AreKnownFor stage.problem.now stage.number p known) same_patches here))

-- what a state kept that is done
pub kept_at_end : (stage : Stage) (state : State) (kept : Vec Based) → kept ≡ state.kept → (found : Option Refutation) → IfSome found (IsDone stage state) → IfSome found (IsKeptAtEnd stage kept)
kept_at_end stage state kept same None done = done
kept_at_end stage state kept same (Some refutation) done = record { state = state; done = done; same = same }

-- they have a bit for each input of f
pub forcing_long : (stage : Stage) (ones zeros : List (List Bool)) → IsStage stage → AtScene stage (λ s. AreForcing s ones zeros) →
    All (λ x. length x ≡ length stage.problem.now.implementation.inputs) ones × All (λ x. length x ≡ length stage.problem.now.implementation.inputs) zeros
forcing_long stage ones zeros is forcing =
    let (before, target, behind, are, len) = targets_at stage is in
    let s = scene_of stage before target behind in
    let here = forcing before target behind are len in
    let long = λ (x : List Bool). length x ≡ length stage.problem.now.implementation.inputs in (
      All-weaker (λ x. IsForcedHere s x true) long (λ x forced. forced.len) ones here.ones,
      All-weaker (λ x. IsForcedHere s x false) long (λ x forced. forced.len) zeros here.zeros,
    )

-- what holds of the elements at each place
zip_at : (R : List Bool → List Bool → Type 0) (xs ys : List (List Bool)) (k : ℕ) (x y : List Bool) → AllZip R xs ys → slice_get xs k ≡ Some x → slice_get ys k ≡ Some y → R x y
zip_at R xs ys k x y zip at_x at_y =
    subst (λ a. R a y) (get_or_from_slice_get xs k x x at_x)
    (subst (R (get_or xs k x)) (get_or_from_slice_get ys k y y at_y) (AllZip-get_or R xs ys k x y zip (slice_get_within xs k x at_x)))

-- what holds of the elements at each place can be weakened
zip_weaker : (R S : List Bool → List Bool → Type 0) → ((x y : List Bool) → R x y → S x y) → (xs ys : List (List Bool)) → AllZip R xs ys → AllZip S xs ys
zip_weaker R S weaker [] [] zip = zip
zip_weaker R S weaker [] (y ∷ ys) zip = absurd zip
zip_weaker R S weaker (x ∷ xs) [] zip = absurd zip
zip_weaker R S weaker (x ∷ xs) (y ∷ ys) zip = (weaker x y zip.0, zip_weaker R S weaker xs ys zip.1)

-- inputs that force the target are known with the rows that are read there
side_known : (stage : Stage) (bit : Bool) (side : SideValue) (before : List (List ℕ)) (target : List ℕ) (behind : List (List ℕ)) → AreTargets stage.problem.now.implementation (before ++ target ∷ behind) → length before ≡ stage.number →
    IsScene (scene_of stage before target behind) → AllZip (IsColumnRow stage) side.inputs side.rows → All (λ x. IsForcedHere (scene_of stage before target behind) x bit) side.inputs → AreKnown (scene_of stage before target behind) bit side
side_known stage bit side before target behind are len scene zip forced = λ k x row at_x at_row. record {
  forced = All_at (λ y. IsForcedHere (scene_of stage before target behind) y bit) side.inputs k x forced at_x;
  values = read_known stage x row before target behind scene (zip_at (IsColumnRow stage) side.inputs side.rows k x row zip at_x at_row before target behind are len);
}

-- and each has its row
side_has_rows : (stage : Stage) (side : SideValue) → IsStage stage → AllZip (IsColumnRow stage) side.inputs side.rows → HasRows (length stage.columns.items) side
side_has_rows stage side is zip =
    let count = length_all_zip (IsColumnRow stage) side.inputs side.rows zip in
    record {
      count = count;
      rows = All_from_places (λ (row : List Bool). length row ≡ length stage.columns.items) side.rows (λ k row at.
          let (x, at_x) = item_at side.inputs k (omega (arith, slice_get_within side.rows k row at, count)) in
          read_length stage x row is (zip_at (IsColumnRow stage) side.inputs side.rows k x row zip at_x at));
    }

-- a state with other sides
pub known_state : (stage : Stage) (old new : State) → IsStage stage → IsState stage old → new.kept ≡ old.kept → new.fixed ≡ old.fixed → new.from ≡ old.from → new.rests ≡ old.rests →
    AllZip (IsColumnRow stage) new.ones.inputs new.ones.rows → AllZip (IsColumnRow stage) new.zeros.inputs new.zeros.rows → AtScene stage (λ s. AreForcing s new.ones.inputs new.zeros.inputs) → IsState stage new
known_state stage old new is state same_kept same_fixed same_from same_rests zip_ones zip_zeros forcing = record {
  kept = subst (λ (kept : Vec Based). AreKeptNets stage kept.items) (sym same_kept) state.kept;
  from = omega (arith, same_from, state.from);
  fixed = subst (λ (fixed : Vec ℕ). All (λ column. column < length stage.columns.items) fixed.items) (sym same_fixed) state.fixed;
  ones = side_has_rows stage new.ones is zip_ones;
  zeros = side_has_rows stage new.zeros is zip_zeros;
  scene = λ before target behind are len.
      let s = scene_of stage before target behind in
      let f = stage.problem.now.implementation in
      let at = state.scene before target behind are len in
      let scene = is.scene before target behind are len in
      let here = forcing before target behind are len in
      record {
        place = at.place;
        from = same_from ∙ at.from;
        fixed = ap (λ (fixed : Vec ℕ). map (slice_get (columns_of s)) fixed.items) same_fixed ∙ at.fixed ∙ ap (λ (kept : Vec Based). map Some (s.paid ++ names_of (witnesses_of f kept.items))) (sym same_kept);
        front = subst (λ (kept : Vec Based). IsFront f s.problem.goal s.patches before target s.paid s.turns at.place (witnesses_of f kept.items)) (sym same_kept) at.front;
        ones = side_known stage true new.ones before target behind are len scene zip_ones here.ones;
        zeros = side_known stage false new.zeros before target behind are len scene zip_zeros here.zeros;
        rests = subst (λ (rests : Vec (List Bool)). AreRests s rests.items) (sym same_rests) at.rests;
      };
}

-- the rows of the splice are signals' values
pub rows_are_values : (stage : Stage) (n : Circuit) (nets : List NetId) (inputs rows : List (List Bool)) → IsStage stage → AreNets (names stage.problem.now.implementation) nets →
    AtScene stage (λ s. AreReadableHere s (names_here stage nets)) → n ≡ splice_at stage → AllZip (IsRowOf n nets) inputs rows → AreRowsAt stage.problem.now stage.number stage.patches (names_here stage nets) inputs rows
rows_are_values stage n nets inputs rows stage_is within readable is zip = λ before target behind are len.
    let problem = stage.problem.now in
    let f = problem.implementation in
    let patches = stage.patches in
    let signals = names_at (names f) nets in
    let s = scene_of stage before target behind in
    let scene = stage_is.scene before target behind are len in
    zip_weaker (IsRowOf n nets) (AreValues f patches before signals)
    (λ x row row_of.
    let all = filled_is_reached s n x row_of.values scene.patch scene.fits scene.outputs is row_of.are in
    let inside = subst (λ (m : Circuit). AreNets (names m) nets) (sym is) (nets_of_splice f patches nets within) in
    let (v, reached, same) = read_at_nets s n nets x row_of.values row is within all row_of.read inside in
    subst (AreValues f patches before signals x) same
    (values_of_reached f patches before signals (record { patch = scene.patch; weights = problem.weights; input_weight = problem.input_weight; candidates = (readable before target behind are len).candidates }) x v reached))
    inputs rows zip
