-- The rows of a change's files have one outcome: a line for each row.
use Rattle.std.proofs.Common.{◌≡◌, ℕ, List, [], Option, Some, length, unwrap_or, ap, refl, subst, sym, arith, ◌<◌, ◌≤◌}
use Rattle.eco_meaning.specs.Circuit.{Circuit, names}
use Rattle.eco_netlist.specs.declared.draft.TargetRule.TheVariants.{Never}
use Rattle.eco_outside.specs.Store.{Files, StoreView}
use Rattle.eco_query.specs.declared.problem.PairError.{PairError}
use Rattle.eco_query.specs.declared.problem.PairError.TheVariants as pairing
use Rattle.eco_query.specs.Pairing.{FitTogether, IsMisfit}
use Rattle.eco_vread.proofs.Sizes.{few_nets}
use Rattle.eco_vread.specs.Texts.{IsNetlistText}
use Rattle.eco_change.specs.Change.{HasRoom}
use Rattle.eco_words.specs.CommandLine.{ChangeOptions}
use Rattle.eco_inputs.specs.declared.TheConstants.{MOST_BYTES}
use Rattle.eco_inputs.specs.declared.changes.ChangeInputs.{ChangeInputs}
use Rattle.eco_inputs.specs.declared.halt.FileError.{FileError}
use Rattle.eco_inputs.specs.declared.halt.Halt.{Halt}
use Rattle.eco_inputs.specs.declared.kinds.NetlistError.{NetlistError}
use Rattle.eco_inputs.specs.declared.paths.FileOption.TheVariants.{Implementation, Specification, Care}
use Rattle.eco_inputs.specs.declared.error.PairMismatch.{PairMismatch}
use Rattle.eco_inputs.specs.declared.error.PairMismatch.TheVariants.{PortsDiffer, CareInputs, CareOutputs, NoTarget, TooManyTargets}
use Rattle.eco_inputs.specs.declared.error.InputError.TheVariants.{InNetlist, Unpaired}
use Rattle.eco_inputs.specs.Changes.{IsUnfit, cared_row, change_inputs_of, change_rows, change_with, fit_row, long_change, old_row, wanted_row}
use Rattle.eco_inputs.specs.Inputs.{IsUnpaired, determined_input, stop_of_pair}
use Rattle.eco_inputs.specs.Kinds.{netlist_kind, determined_netlist, specification_kind}
use Rattle.eco_inputs.specs.Paths.{change_path_of}
use Rattle.eco_inputs.specs.Reading.{Halts, IsRead, determined_file, file_row, oversize_of}
use Rattle.eco_inputs.specs.Rows.{IsRow, named_row, optional_row, test_row, value_row}
use Rattle.eco_inputs.proofs.InputLaws.{netlist_law}
use Rattle.eco_inputs.proofs.KindLaws.{netlists, specifications}
use Rattle.eco_inputs.proofs.PairLaws.{not_alone, not_both, not_other, one_pair_mismatch}
use Rattle.eco_inputs.proofs.ReadingLaws.{file_law, front_halts}
use Rattle.eco_inputs.proofs.RowLaws.{named_law, optional_law, test_law, three_law}

-- the netlist of a short text has room for nets that are cut
pub has_room : (told : Option Files) (path : List ℕ) (n : Circuit) → IsRead (IsNetlistText Never) told path MOST_BYTES n → HasRoom n
has_room told path n read =
    let short : length read.bytes ≤ MOST_BYTES = read.short in
    let fewer : length (names n) < length read.bytes = few_nets Never read.bytes n read.holds in
    omega arith

-- the netlists are no change
pub misfit_halts : (options : ChangeOptions) (given : ChangeInputs) (store : StoreView) (error : PairError) → IsMisfit given.old given.specification given.care error → Halts (long_change options) (fit_row given) store store (stop_of_pair error)
misfit_halts options given store (pairing.PortsDiffer name) h = ((_, refl, h), tt)
misfit_halts options given store (pairing.CareInputs name) h = ((_, refl, h), tt)
misfit_halts options given store (pairing.CareOutputs count) h = ((_, refl, h), tt)
misfit_halts options given store pairing.NoTarget h = absurd h
misfit_halts options given store (pairing.TooManyTargets count) h = absurd h
misfit_halts options given store pairing.OutOfMemory h = tt

-- the cared netlist's file, which is named, gives nothing
pub cared_halts : (options : ChangeOptions) (path : List ℕ) → options.care ≡ Some path → (before after : StoreView) (why : Halt (FileError NetlistError)) → Halts (oversize_of path MOST_BYTES) (file_row (netlist_kind Never) path MOST_BYTES) before after why → Halts (oversize_of (change_path_of options Care) MOST_BYTES) (cared_row options) before after why
cared_halts options path is before after why h =
    subst (λ care. Halts (oversize_of (unwrap_or care []) MOST_BYTES) (optional_row care (λ name. file_row (netlist_kind Never) name MOST_BYTES)) before after why) (sym is)
    (front_halts (oversize_of path MOST_BYTES) (file_row (netlist_kind Never) path MOST_BYTES) (λ value. value_row (Some value)) before after why h)

-- ---- the test

-- what is no change is no problem either
unpaired : (f g : Circuit) (care : Option Circuit) (a : PairMismatch) → IsUnfit f g care a → IsUnpaired f g care a
unpaired f g care (PortsDiffer name) h = h
unpaired f g care (CareInputs name) h = h
unpaired f g care (CareOutputs count) h = h
unpaired f g care NoTarget h = absurd h
unpaired f g care (TooManyTargets count) h = absurd h

no_misfit : (f g : Circuit) (care : Option Circuit) (a : PairMismatch) → IsUnfit f g care a → FitTogether f g care → ⊥
no_misfit f g care (PortsDiffer name) h fits = not_both h.0 (fits.ports name)
no_misfit f g care (CareInputs name) h fits = not_alone f care name h.1 fits.inputs
no_misfit f g care (CareOutputs count) h fits = not_other care count h.2 h.3 fits.one_output
no_misfit f g care NoTarget h fits = h
no_misfit f g care (TooManyTargets count) h fits = h

pub fit_law : (given : ChangeInputs) (files : Files) → IsRow determined_input (fit_row given) (Some files)
fit_law given files =
    let f = given.old in
    let g = given.specification in
    named_law (λ own. own) determined_input Unpaired (test_row (IsUnfit f g given.care) (FitTogether f g given.care) (change_with given)) (Some files)
    (λ a b same. ap Unpaired same)
    (test_law (λ own. own) (IsUnfit f g given.care) (FitTogether f g given.care) (change_with given) (Some files)
    (λ a b x y. one_pair_mismatch f g given.care a b (unpaired f g given.care a x) (unpaired f g given.care b y)) (no_misfit f g given.care))

-- ---- the files

pub change_law : (options : ChangeOptions) (files : Files) → IsRow determined_input (change_rows options) (Some files)
change_law options files =
    let old = netlist_law Implementation (old_row options) files (file_law determined_netlist (netlist_kind Never) (netlists Never) options.implementation MOST_BYTES files) in
    let wanted = netlist_law Specification (wanted_row options) files (file_law determined_netlist specification_kind specifications options.specification MOST_BYTES files) in
    let cared = netlist_law Care (cared_row options) files (optional_law (determined_file determined_netlist) options.care (λ path. file_row (netlist_kind Never) path MOST_BYTES) (Some files) (λ path. file_law determined_netlist (netlist_kind Never) (netlists Never) path MOST_BYTES files)) in
    three_law determined_input change_inputs_of (named_row (InNetlist Implementation) (old_row options))
    (named_row (InNetlist Specification) (wanted_row options)) (named_row (InNetlist Care) (cared_row options)) (Some files) old wanted cared
