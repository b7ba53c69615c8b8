-- The files of a change: the netlist that is to be changed, the specification and the cared netlist, and the change that they are.
use Rattle.std.specs.Prelude.{◌≡◌, Option, None}
use Rattle.std.specs.Option.{ForSome}
use Rattle.eco_meaning.specs.Circuit.{Circuit}
use Rattle.eco_netlist.specs.declared.draft.TargetRule.TheVariants.{Never}
use Rattle.eco_outside.specs.Store.{Files}
use Rattle.eco_query.specs.declared.problem.PairError.TheVariants as pairing
use Rattle.eco_query.specs.Pairing.{FitTogether, IsMisfit}
use Rattle.eco_query.specs.Problem.{IsClosed, goal_of}
use Rattle.eco_change.specs.Change.{ChangeValue, HasRoom}
use Rattle.eco_words.specs.CommandLine.{ChangeOptions}
use Rattle.eco_inputs.specs.declared.TheConstants.{MOST_BYTES}
use Rattle.eco_inputs.specs.declared.halt.FileError.{FileError}
use Rattle.eco_inputs.specs.declared.changes.ChangeInputs.{ChangeInputs}
use Rattle.eco_inputs.specs.declared.kinds.NetlistError.{NetlistError}
use Rattle.eco_inputs.specs.declared.paths.FileOption.TheVariants.{Implementation, Specification, Care}
use Rattle.eco_inputs.specs.declared.error.PairMismatch.{PairMismatch}
use Rattle.eco_inputs.specs.declared.error.PairMismatch.TheVariants.{PortsDiffer, CareInputs, CareOutputs, NoTarget, TooManyTargets}
use Rattle.eco_inputs.specs.declared.error.InputError.{InputError}
use Rattle.eco_inputs.specs.declared.error.InputError.TheVariants.{InNetlist, InWeights, Unpaired}
use Rattle.eco_inputs.specs.Kinds.{netlist_kind, specification_kind}
use Rattle.eco_inputs.specs.Paths.{change_path_of}
use Rattle.eco_inputs.specs.Reading.{Oversize, file_row, oversize_of}
use Rattle.eco_inputs.specs.Rows.{Row, named_row, optional_row, test_row, three_rows}

-- the netlists are no change, for this; targets play no part
abbrev pub IsUnfit : Circuit → Circuit → Option Circuit → PairMismatch → Type 0
IsUnfit f g care (PortsDiffer name) = IsMisfit f g care (pairing.PortsDiffer name)
IsUnfit f g care (CareInputs name) = IsMisfit f g care (pairing.CareInputs name)
IsUnfit f g care (CareOutputs count) = IsMisfit f g care (pairing.CareOutputs count)
IsUnfit f g care NoTarget = ⊥
IsUnfit f g care (TooManyTargets count) = ⊥

-- what the files give that were read in this order
abbrev pub change_inputs_of : (Circuit × Circuit) × Option Circuit → ChangeInputs
change_inputs_of read = record { old = read.0.0; specification = read.0.1; care = read.1 }

-- the change that they are
abbrev pub change_with : ChangeInputs → ChangeValue
change_with given = record { old = given.old; goal = goal_of given.specification given.care }

-- ---- the single rows

-- the file of the netlist that is to be changed has an error; or it gives the netlist, which has no targets
abbrev pub old_row : ChangeOptions → Row (Option Files) (FileError NetlistError) Circuit
old_row options = file_row (netlist_kind Never) options.implementation MOST_BYTES

-- the specification's file has an error; or it gives the specification, which has no targets
abbrev pub wanted_row : ChangeOptions → Row (Option Files) (FileError NetlistError) Circuit
wanted_row options = file_row specification_kind options.specification MOST_BYTES

-- if the words name a file of a cared netlist, it has an error; or it gives one, which has no targets
abbrev pub cared_row : ChangeOptions → Row (Option Files) (FileError NetlistError) (Option Circuit)
cared_row options = optional_row options.care (λ path. file_row (netlist_kind Never) path MOST_BYTES)

-- the netlists are no change; or they are one
abbrev pub fit_row : ChangeInputs → Row (Option Files) InputError ChangeValue
fit_row given =
    named_row Unpaired
    (test_row (IsUnfit given.old given.specification given.care) (FitTogether given.old given.specification given.care) (change_with given))

-- ---- the files in order

-- the netlist that is to be changed, the specification and the cared netlist
abbrev pub change_rows : ChangeOptions → Row (Option Files) InputError ChangeInputs
change_rows options =
    three_rows change_inputs_of (named_row (InNetlist Implementation) (old_row options))
    (named_row (InNetlist Specification) (wanted_row options)) (named_row (InNetlist Care) (cared_row options))

-- ---- why they are no change

-- the file, if one is too long
abbrev pub long_change : ChangeOptions → InputError → Option Oversize
long_change options (InNetlist file error) = oversize_of (change_path_of options file) MOST_BYTES error
long_change options (InWeights error) = None
long_change options (Unpaired error) = None

-- ---- between the stages

-- no netlist has targets, and the one that is to be changed has room for a net that is cut
pub record AreChangeable (given : ChangeInputs) : Type 0 where
  pub closed : IsClosed given.old
  pub wanted_closed : IsClosed given.specification
  pub care_closed : ForSome given.care IsClosed
  pub room : HasRoom given.old

-- the files are this change
abbrev pub IsChangeOf : ChangeValue → ChangeValue → Type 0
IsChangeOf change value = change ≡ value
