-- The rows of `prove` have one outcome: a line for each row.
use Rattle.std.proofs.Common.{◌≡◌, inl, inr, true, [], Some, ap, refl}
use Rattle.eco_meaning.specs.Circuit.{Circuit}
use Rattle.eco_meaning.specs.Meaning.{everywhere, IsRectifiable, IsWrong}
use Rattle.eco_netlist.specs.declared.draft.TargetRule.TheVariants.{Never}
use Rattle.eco_netlist.specs.Refusals.{IsFirst, NeverComes}
use Rattle.eco_outside.specs.Store.{Files}
use Rattle.eco_query.specs.Ports.{is_unlike}
use Rattle.eco_words.specs.CommandLine.{ProveOptions}
use Rattle.eco_inputs.specs.declared.TheConstants.{MOST_BYTES}
use Rattle.eco_cli.specs.declared.prove.ProveFile.{ProveFile}
use Rattle.eco_cli.specs.declared.prove.ProveFile.TheVariants.{Left, Right}
use Rattle.eco_cli.specs.declared.prove.ProveStop.{ProveStop}
use Rattle.eco_cli.specs.declared.prove.ProveStop.TheVariants.{SamePath, InNetlist, PortsDiffer, Differs}
use Rattle.eco_cli.specs.declared.prove.Sides.{Sides}
use Rattle.eco_inputs.specs.Kinds.{netlist_kind, determined_netlist}
use Rattle.eco_cli.specs.Prove.{differs_row, file_path, from_left, from_netlists, is_difference, ports_row, prove_files_of, prove_rows, prove_rules, determined_prove, side_row, sides, sides_rows}
use Rattle.eco_inputs.specs.Paths.{paths_row}
use Rattle.eco_inputs.specs.Reading.{determined_file}
use Rattle.eco_inputs.specs.Rows.{IsRow, named_row}
use Rattle.eco_cli.specs.Rules.{IsLawful}
use Rattle.eco_inputs.proofs.KindLaws.{netlists}
use Rattle.eco_inputs.proofs.OneRefusal.{one_first}
use Rattle.eco_inputs.proofs.PairLaws.{not_both}
use Rattle.eco_inputs.proofs.PathLaws.{repeat_law}
use Rattle.eco_inputs.proofs.ReadingLaws.{file_law}
use Rattle.eco_inputs.proofs.RowLaws.{named_law, test_law, then_law}

-- ---- the rows, the last ones first

ports_law : (left right : Circuit) (files : Files) → IsRow determined_prove (named_row PortsDiffer (ports_row left right)) (Some files)
ports_law left right files =
    named_law (λ own. own) determined_prove PortsDiffer (ports_row left right) (Some files) (λ a b same. ap PortsDiffer same)
    (test_law (λ own. own) (IsFirst (is_unlike left right)) (NeverComes (is_unlike left right)) (sides left right) (Some files)
    (one_first (is_unlike left right)) (λ a x never. not_both x.0 (never a)))

side_law : (options : ProveOptions) (file : ProveFile) (files : Files) → IsRow determined_prove (named_row (InNetlist file) (side_row options file)) (Some files)
side_law options file files =
    named_law (determined_file determined_netlist) determined_prove (InNetlist file) (side_row options file) (Some files)
    (λ a b same. ap (InNetlist file) same)
    (file_law determined_netlist (netlist_kind Never) (netlists Never) (file_path options file) MOST_BYTES files)

left_law : (options : ProveOptions) (left : Circuit) (files : Files) → IsRow determined_prove (from_left options left) (Some files)
left_law options left files =
    then_law determined_prove (named_row (InNetlist Right) (side_row options Right)) (λ right. named_row PortsDiffer (ports_row left right)) (Some files)
    (side_law options Right files) (λ right. ports_law left right files)

netlists_law : (options : ProveOptions) (files : Files) → IsRow determined_prove (from_netlists options) (Some files)
netlists_law options files =
    then_law determined_prove (named_row (InNetlist Left) (side_row options Left)) (from_left options) (Some files)
    (side_law options Left files) (λ left. left_law options left files)

sides_law : (options : ProveOptions) (files : Files) → IsRow determined_prove (sides_rows options) (Some files)
sides_law options files =
    then_law determined_prove (named_row SamePath (paths_row (prove_files_of options))) (λ _. from_netlists options) (Some files)
    (named_law (λ own. own) determined_prove SamePath (paths_row (prove_files_of options)) (Some files) (λ a b same. ap SamePath same)
    (repeat_law (prove_files_of options) files))
    (λ _. netlists_law options files)

differs_law : (pair : Sides) (files : Files) → IsRow determined_prove (named_row Differs (differs_row pair)) (Some files)
differs_law pair files =
    named_law (λ _. []) determined_prove Differs (differs_row pair) (Some files) (λ a b same. refl)
    (test_law (λ _. []) (IsWrong pair.left (everywhere pair.right)) (IsRectifiable pair.left (everywhere pair.right)) pair
    (Some files) (λ a b x y. refl) (λ a wrong none. none a wrong))

rows_law : (options : ProveOptions) (files : Files) → IsRow determined_prove (prove_rows options) (Some files)
rows_law options files =
    then_law determined_prove (sides_rows options) (λ pair. named_row Differs (differs_row pair)) (Some files)
    (sides_law options files) (λ pair. differs_law pair files)

determined_no : (why : ProveStop) → is_difference (determined_prove why) ≡ is_difference why
determined_no (SamePath file) = refl
determined_no (InNetlist file error) = refl
determined_no (PortsDiffer name) = refl
determined_no (Differs input) = refl

-- where two netlists with the same ports were read, nothing is refused
unrefused : (options : ProveOptions) (files : Files) (pair : Sides) → (sides_rows options).passes (Some files) pair → (why : ProveStop) → (prove_rows options).stands (Some files) why → is_difference why ≡ true
unrefused options files pair passed why (inl stands) = absurd ((sides_law options files).apart why pair stands passed)
unrefused options files pair passed why (inr (other, also, differs)) = ap is_difference differs.1

pub prove_law : (options : ProveOptions) → IsLawful (prove_rules options)
prove_law options = record { rows = rows_law options; determined = determined_no; asked = unrefused options }
