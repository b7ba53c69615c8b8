-- The rows of the files that `synth` and `audit` have alike have one outcome: a line for each row.
use Rattle.std.proofs.Common.{◌≡◌, ℕ, List, [], Option, Some, unwrap_or, ap, refl, subst, sym}
use Rattle.eco_netlist.specs.declared.draft.TargetRule.TheVariants.{Allowed, Never}
use Rattle.eco_outside.specs.Store.{Files, StoreView}
use Rattle.eco_query.specs.declared.problem.PairError.{PairError}
use Rattle.eco_query.specs.declared.problem.PairError.TheVariants as pairing
use Rattle.eco_query.specs.Pairing.{Refuses as RefusesPair}
use Rattle.eco_query.specs.Problem.{IsProblem, goal_of}
use Rattle.eco_words.specs.CommandLine.{ProblemOptions}
use Rattle.eco_inputs.specs.declared.TheConstants.{MOST_BYTES}
use Rattle.eco_inputs.specs.declared.halt.FileError.{FileError}
use Rattle.eco_inputs.specs.declared.inputs.Inputs.{Inputs}
use Rattle.eco_inputs.specs.declared.kinds.NetlistError.{NetlistError}
use Rattle.eco_inputs.specs.declared.paths.FileOption.{FileOption}
use Rattle.eco_inputs.specs.declared.paths.FileOption.TheVariants.{Implementation, Specification, Care}
use Rattle.eco_inputs.specs.declared.error.InputError.TheVariants.{InNetlist, InWeights, Unpaired}
use Rattle.eco_inputs.specs.declared.halt.Halt.{Halt}
use Rattle.eco_inputs.specs.Paths.{problem_path_of}
use Rattle.eco_inputs.specs.Inputs.{IsUnpaired, care_row, determined_input, implementation_row, input_rows, inputs_of, long_input, pair_row, problem_with, specification_row, stop_of_pair, weight_row}
use Rattle.eco_inputs.specs.Kinds.{netlist_kind, determined_netlist, specification_kind, weight_kind}
use Rattle.eco_inputs.specs.Reading.{Halts, determined_file, file_row, oversize_of}
use Rattle.eco_inputs.specs.Rows.{IsRow, Row, named_row, optional_row, test_row, value_row}
use Rattle.eco_inputs.proofs.KindLaws.{netlists, specifications, weights}
use Rattle.eco_inputs.proofs.PairLaws.{no_pair_mismatch, one_pair_mismatch}
use Rattle.eco_inputs.proofs.ReadingLaws.{file_law, front_halts}
use Rattle.eco_inputs.proofs.RowLaws.{four_law, named_law, optional_law, test_law}

-- the netlists are no problem
pub pair_halts : (options : ProblemOptions) (given : Inputs) (store : StoreView) (error : PairError) → RefusesPair given.implementation given.specification given.care error → Halts (long_input options) (pair_row options given) store store (stop_of_pair error)
pair_halts options given store (pairing.PortsDiffer name) h = ((_, refl, h), tt)
pair_halts options given store (pairing.CareInputs name) h = ((_, refl, h), tt)
pair_halts options given store (pairing.CareOutputs count) h = ((_, refl, h), tt)
pair_halts options given store pairing.NoTarget h = ((_, refl, h), tt)
pair_halts options given store (pairing.TooManyTargets count) h = ((_, refl, h), tt)
pair_halts options given store pairing.OutOfMemory h = tt

-- the cared netlist's file, which is named, gives nothing
pub care_halts : (options : ProblemOptions) (path : List ℕ) → options.care ≡ Some path → (before after : StoreView) (why : Halt (FileError NetlistError)) → Halts (oversize_of path MOST_BYTES) (file_row (netlist_kind Never) path MOST_BYTES) before after why → Halts (oversize_of (problem_path_of options Care) MOST_BYTES) (care_row options) before after why
care_halts options path is before after why h =
    subst (λ care. Halts (oversize_of (unwrap_or care []) MOST_BYTES) (optional_row care (λ name. file_row (netlist_kind Never) name MOST_BYTES)) before after why) (sym is)
    (front_halts (oversize_of path MOST_BYTES) (file_row (netlist_kind Never) path MOST_BYTES) (λ value. value_row (Some value)) before after why h)

-- ---- the test

pub pair_law : (options : ProblemOptions) (given : Inputs) (files : Files) → IsRow determined_input (pair_row options given) (Some files)
pair_law options given files =
    named_law (λ own. own) determined_input Unpaired
    (test_row (IsUnpaired given.implementation given.specification given.care)
    (IsProblem given.implementation (goal_of given.specification given.care)) (problem_with options given)) (Some files)
    (λ a b same. ap Unpaired same)
    (test_law (λ own. own) (IsUnpaired given.implementation given.specification given.care)
    (IsProblem given.implementation (goal_of given.specification given.care)) (problem_with options given) (Some files)
    (one_pair_mismatch given.implementation given.specification given.care) (no_pair_mismatch given.implementation given.specification given.care))

-- ---- the files

-- a netlist's file
pub netlist_law : {Value : Type 0} (file : FileOption) (row : Row (Option Files) (FileError NetlistError) Value) (files : Files) → IsRow (determined_file determined_netlist) row (Some files) → IsRow determined_input (named_row (InNetlist file) row) (Some files)
netlist_law file row files law =
    named_law (determined_file determined_netlist) determined_input (InNetlist file) row (Some files) (λ a b same. ap (InNetlist file) same) law

weights_law : (options : ProblemOptions) (files : Files) → IsRow determined_input (named_row InWeights (weight_row options)) (Some files)
weights_law options files =
    named_law (determined_file (λ own. own)) determined_input InWeights (weight_row options) (Some files) (λ a b same. ap InWeights same)
    (file_law (λ own. own) weight_kind weights options.weight MOST_BYTES files)

pub input_law : (options : ProblemOptions) (files : Files) → IsRow determined_input (input_rows options) (Some files)
input_law options files =
    let implementation = netlist_law Implementation (implementation_row options) files (file_law determined_netlist (netlist_kind Allowed) (netlists Allowed) options.implementation MOST_BYTES files) in
    let specification = netlist_law Specification (specification_row options) files (file_law determined_netlist specification_kind specifications options.specification MOST_BYTES files) in
    let care = netlist_law Care (care_row options) files (optional_law (determined_file determined_netlist) options.care (λ path. file_row (netlist_kind Never) path MOST_BYTES) (Some files) (λ path. file_law determined_netlist (netlist_kind Never) (netlists Never) path MOST_BYTES files)) in
    four_law determined_input inputs_of (named_row (InNetlist Implementation) (implementation_row options))
    (named_row (InNetlist Specification) (specification_row options)) (named_row InWeights (weight_row options))
    (named_row (InNetlist Care) (care_row options)) (Some files) implementation specification (weights_law options files) care
