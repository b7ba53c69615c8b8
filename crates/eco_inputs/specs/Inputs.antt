-- The files that `synth` and `audit` have alike: the implementation, the specification, the weights and the cared netlist,
-- and the problem that they are.
use Rattle.std.specs.Prelude.{◌≡◌, Option, None}
use Rattle.std.specs.Option.{ForSome}
use Rattle.eco_meaning.specs.Circuit.{Circuit}
use Rattle.eco_meaning.specs.Cost.{Weights}
use Rattle.eco_netlist.specs.declared.draft.TargetRule.TheVariants.{Allowed, Never}
use Rattle.eco_outside.specs.Store.{Files}
use Rattle.eco_query.specs.declared.problem.PairError.{PairError}
use Rattle.eco_query.specs.declared.problem.PairError.TheVariants as pairing
use Rattle.eco_query.specs.Pairing.{Refuses as RefusesPair}
use Rattle.eco_query.specs.Problem.{HasFewNets, IsClosed, IsProblem, ProblemValue, goal_of}
use Rattle.eco_words.specs.CommandLine.{ProblemOptions}
use Rattle.eco_inputs.specs.declared.TheConstants.{MOST_BYTES}
use Rattle.eco_inputs.specs.declared.halt.Halt.{Halt}
use Rattle.eco_inputs.specs.declared.halt.Halt.TheVariants as halt
use Rattle.eco_inputs.specs.declared.halt.FileError.{FileError}
use Rattle.eco_inputs.specs.declared.inputs.Inputs.{Inputs}
use Rattle.eco_inputs.specs.declared.kinds.NetlistError.{NetlistError}
use Rattle.eco_inputs.specs.declared.kinds.WeightTextError.{WeightTextError}
use Rattle.eco_inputs.specs.declared.paths.FileOption.TheVariants.{Implementation, Specification, Care}
use Rattle.eco_inputs.specs.declared.error.PairMismatch.{PairMismatch}
use Rattle.eco_inputs.specs.declared.error.PairMismatch.TheVariants.{PortsDiffer, CareInputs, CareOutputs, NoTarget, TooManyTargets}
use Rattle.eco_inputs.specs.declared.error.InputError.{InputError}
use Rattle.eco_inputs.specs.declared.error.InputError.TheVariants.{InNetlist, InWeights, Unpaired}
use Rattle.eco_inputs.specs.Kinds.{determined_netlist, netlist_kind, specification_kind, weight_kind}
use Rattle.eco_inputs.specs.Paths.{problem_path_of}
use Rattle.eco_inputs.specs.Reading.{Oversize, determined_file, file_row, oversize_of}
use Rattle.eco_inputs.specs.Rows.{Row, four_rows, named_row, optional_row, test_row}

-- the netlists are no problem, for this
abbrev pub IsUnpaired : Circuit → Circuit → Option Circuit → PairMismatch → Type 0
IsUnpaired f g care (PortsDiffer name) = RefusesPair f g care (pairing.PortsDiffer name)
IsUnpaired f g care (CareInputs name) = RefusesPair f g care (pairing.CareInputs name)
IsUnpaired f g care (CareOutputs count) = RefusesPair f g care (pairing.CareOutputs count)
IsUnpaired f g care NoTarget = RefusesPair f g care pairing.NoTarget
IsUnpaired f g care (TooManyTargets count) = RefusesPair f g care (pairing.TooManyTargets count)

-- what the files give that were read in this order
abbrev pub inputs_of : ((Circuit × Circuit) × Weights) × Option Circuit → Inputs
inputs_of read = record { implementation = read.0.0.0; specification = read.0.0.1; weights = read.0.1; care = read.1 }

-- the problem that they are, with the words' weight of unlisted inputs
abbrev pub problem_with : ProblemOptions → Inputs → ProblemValue
problem_with options given = record {
  implementation = given.implementation;
  goal = goal_of given.specification given.care;
  weights = given.weights;
  input_weight = options.input_weight;
}

-- ---- the single rows

-- the implementation's file has an error; or it gives the implementation
abbrev pub implementation_row : ProblemOptions → Row (Option Files) (FileError NetlistError) Circuit
implementation_row options = file_row (netlist_kind Allowed) options.implementation MOST_BYTES

-- the specification's file has an error; or it gives the specification, which has no targets
abbrev pub specification_row : ProblemOptions → Row (Option Files) (FileError NetlistError) Circuit
specification_row options = file_row specification_kind options.specification MOST_BYTES

-- the weight file has an error; or it gives weights
abbrev pub weight_row : ProblemOptions → Row (Option Files) (FileError WeightTextError) Weights
weight_row options = file_row weight_kind options.weight MOST_BYTES

-- where the words name a file of a cared netlist, it has an error; or it gives one, which has no targets
abbrev pub care_row : ProblemOptions → Row (Option Files) (FileError NetlistError) (Option Circuit)
care_row options = optional_row options.care (λ path. file_row (netlist_kind Never) path MOST_BYTES)

-- the netlists are no problem; or they are one
abbrev pub pair_row : ProblemOptions → Inputs → Row (Option Files) InputError ProblemValue
pair_row options given =
    named_row Unpaired
    (test_row (IsUnpaired given.implementation given.specification given.care)
    (IsProblem given.implementation (goal_of given.specification given.care)) (problem_with options given))

-- ---- the files in order

-- the implementation, the specification, the weights and the cared netlist
abbrev pub input_rows : ProblemOptions → Row (Option Files) InputError Inputs
input_rows options =
    four_rows inputs_of (named_row (InNetlist Implementation) (implementation_row options))
    (named_row (InNetlist Specification) (specification_row options)) (named_row InWeights (weight_row options))
    (named_row (InNetlist Care) (care_row options))

-- ---- why they are no problem

-- the file, where one is too long
abbrev pub long_input : ProblemOptions → InputError → Option Oversize
long_input options (InNetlist file error) = oversize_of (problem_path_of options file) MOST_BYTES error
long_input options (InWeights error) = oversize_of options.weight MOST_BYTES error
long_input options (Unpaired error) = None

-- the error with what is left open taken out: which loop is shown, which place of an error of the grammar
abbrev pub determined_input : InputError → InputError
determined_input (InNetlist file error) = InNetlist file (determined_file determined_netlist error)
determined_input (InWeights error) = InWeights (determined_file (λ own. own) error)
determined_input (Unpaired error) = Unpaired error

-- ---- between the stages

-- the implementation is small, and the other netlists have no targets
pub record AreFit (given : Inputs) : Type 0 where
  pub few_nets : HasFewNets given.implementation
  pub closed : IsClosed given.specification
  pub care_closed : ForSome given.care IsClosed

-- the files are this problem
abbrev pub IsProblemOf : ProblemValue → ProblemValue → Type 0
IsProblemOf problem value = problem ≡ value

-- the netlists are no problem, where the error tells of it
abbrev pub stop_of_pair : PairError → Halt InputError
stop_of_pair (pairing.PortsDiffer name) = halt.For (Unpaired (PortsDiffer name))
stop_of_pair (pairing.CareInputs name) = halt.For (Unpaired (CareInputs name))
stop_of_pair (pairing.CareOutputs count) = halt.For (Unpaired (CareOutputs count))
stop_of_pair pairing.NoTarget = halt.For (Unpaired NoTarget)
stop_of_pair (pairing.TooManyTargets count) = halt.For (Unpaired (TooManyTargets count))
stop_of_pair pairing.OutOfMemory = halt.OutOfMemory
