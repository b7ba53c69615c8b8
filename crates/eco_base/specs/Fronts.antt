-- The choice on its way: what is kept so far, the inputs whose forced bits are known, and the rests.
use Rattle.std.specs.Prelude.{◌≡◌, ℕ, ◌+◌, ◌-◌, ◌^◌, ◌<◌, ◌≤◌, Bool, true, false, List, ◌++◌, length, map, drop, slice_get, Some, All, Contains}
use Rattle.std.specs.List.{slice_index_or}
use Rattle.eco_meaning.specs.Choice.{Suffices}
use Rattle.eco_meaning.specs.Circuit.{Circuit, names}
use Rattle.eco_netlist.specs.Netlists.{AreNets, name_at}
use Rattle.eco_gates.specs.declared.gate.NetId.{NetId}
use Rattle.eco_cover.specs.InPlay.{TellInPlay}
use Rattle.eco_laws.specs.Witnesses.{Witness, names_of}
use Rattle.eco_laws.specs.Front.{IsFront}
use Rattle.eco_laws.specs.Rows.{missing}
use Rattle.std.specs.Global.{Vec}
use Rattle.eco_base.specs.Scenes.{Scene, AtScene, columns_of, IsForcedHere, IsReadAt, AreValuesHere}
use Rattle.eco_base.specs.Asking.{AreRests, IsRefuted, names_here}
use Rattle.eco_base.specs.SideValue.{SideValue}
use Rattle.eco_base.specs.declared.based.Based.{Based}
use Rattle.eco_base.specs.declared.stage.Stage.{Stage}
use Rattle.eco_base.specs.declared.state.State.{State}
use Rattle.eco_base.specs.declared.separating.Refutation.{Refutation}
use Rattle.eco_base.specs.declared.stepping.Step.{Step}
use Rattle.eco_base.specs.declared.stepping.Step.TheVariants.{Went, Done}

-- the kept signals as witnesses
abbrev pub witness_of : Circuit → Based → Witness
witness_of f based = record { name = name_at (names f) based.net.0; one = based.one; zero = based.zero }

abbrev pub witnesses_of : Circuit → List Based → List Witness
witnesses_of f kept = map (witness_of f) kept

-- the input x forces the target to the bit, and all signals have these values there
pub record IsKnown (s : Scene) (bit : Bool) (x row : List Bool) : Type 0 where
  pub forced : IsForcedHere s x bit
  pub values : AreValuesHere s (columns_of s) x row

-- each input of the side does so, with the row at its place
abbrev pub AreKnown : Scene → Bool → SideValue → Type 0
AreKnown s bit side =
    (k : ℕ) (x row : List Bool) → slice_get side.inputs k ≡ Some x → slice_get side.rows k ≡ Some row → IsKnown s bit x row

-- the front is certified up to the column where the next turn is, the columns of the paid signals and of those that are kept are
-- fixed, the sides are known, and the rests are some
pub record IsAt (s : Scene) (state : State) : Type 0 where
  pub place : ℕ
  pub from : state.from ≡ length s.paid + place
  pub fixed : map (slice_get (columns_of s)) state.fixed.items
      ≡ map Some (s.paid ++ names_of (witnesses_of s.problem.implementation state.kept.items))
  pub front : IsFront s.problem.implementation s.problem.goal s.patches s.before s.target s.paid s.turns place
      (witnesses_of s.problem.implementation state.kept.items)
  pub ones : AreKnown s true state.ones
  pub zeros : AreKnown s false state.zeros
  pub rests : AreRests s state.rests.items

-- each input of the side has a row with a bit for each column
pub record HasRows (width : ℕ) (side : SideValue) : Type 0 where
  pub count : length side.inputs ≡ length side.rows
  pub rows : All (λ row. length row ≡ width) side.rows

-- the kept signals are nets of the implementation
abbrev pub AreKeptNets : Stage → List Based → Type 0
AreKeptNets stage kept = AreNets (names stage.problem.now.implementation) (map (λ based. based.net) kept)

-- the state is one of the stage
pub record IsState (stage : Stage) (state : State) : Type 0 where
  pub kept : AreKeptNets stage state.kept.items
  pub from : state.from ≤ length stage.columns.items
  pub fixed : All (λ column. column < length stage.columns.items) state.fixed.items
  pub ones : HasRows (length stage.columns.items) state.ones
  pub zeros : HasRows (length stage.columns.items) state.zeros
  pub scene : AtScene stage (λ s. IsAt s state)

-- these are the first numbers, in order
pub record AreFirst (count : ℕ) (columns : List ℕ) : Type 0 where
  pub len : length columns ≡ count
  pub here : (k : ℕ) → k < count → slice_get columns k ≡ Some k

-- the net of a column
abbrev pub column_at : List NetId → ℕ → NetId
column_at columns column = slice_index_or columns column (record { 0 = 0 })

-- the nets that are asked about where the next turn is that of a column: those of the fixed columns, and all from that one on
abbrev pub base_from : Stage → State → ℕ → List NetId
base_from stage state column = map (column_at stage.columns.items) state.fixed.items ++ drop column stage.columns.items

-- the signals that are asked about suffice
abbrev pub SufficesFrom : Stage → State → ℕ → Scene → Type 0
SufficesFrom stage state column s =
    Suffices s.problem.implementation s.problem.goal s.patches s.before s.target (Contains (names_here stage (base_from stage state column)))

-- how much is left to be found: rests, rows of ones and of zeros, and turns
abbrev pub left_of : Stage → State → ℕ
left_of stage state =
    (2 ^ stage.later - length state.rests.items)
    + missing (length stage.columns.items) state.ones.rows + missing (length stage.columns.items) state.zeros.rows
    + (length stage.columns.items - state.from)

-- the state goes on to one where less is left
pub record GoesOn (stage : Stage) (old new : State) : Type 0 where
  pub state : IsState stage new
  pub less : left_of stage new < left_of stage old

-- the state has all turns behind it but those that are dropped, and its base is proved to suffice
pub record IsDone (stage : Stage) (state : State) (refutation : Refutation) : Type 0 where
  pub state_is : IsState stage state
  pub refuted : IsRefuted stage state.rests.items (base_from stage state (length stage.columns.items)) refutation

-- what a step answers
abbrev pub IsStepped : Stage → State → State → Step → Type 0
IsStepped stage old new Went = GoesOn stage old new
IsStepped stage old new (Done refutation) = IsDone stage new refutation

-- the column is one at which the rows are told apart, where the next turn is its own
pub record AreSeparatedAt (stage : Stage) (state : State) (column : ℕ) : Type 0 where
  pub behind : state.from ≤ column
  pub within : column ≤ length stage.columns.items
  pub tell : TellInPlay state.fixed.items column state.ones.rows state.zeros.rows

-- these were kept in a state that has all turns behind it, and they are proved to suffice
pub record IsKeptAtEnd (stage : Stage) (kept : Vec Based) (refutation : Refutation) : Type 0 where
  pub state : State
  pub done : IsDone stage state refutation
  pub same : kept ≡ state.kept

-- the row has the values of all columns at the input x, in a map that the patches leave there
abbrev pub IsColumnRow : Stage → List Bool → List Bool → Type 0
IsColumnRow stage x row = AtScene stage (λ s. IsReadAt s (names_here stage stage.columns.items) x row)
