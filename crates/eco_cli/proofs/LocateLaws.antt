-- The rows of `locate` have one outcome: a line for each row.
use Rattle.std.proofs.Common.{◌≡◌, inl, inr, ℕ, true, List, [], ◌∷◌, map, Some, ap, refl, subst}
use Rattle.std.specs.List.{Contains}
use Rattle.eco_lists.proofs.Members.{Contains_none}
use Rattle.eco_meaning.specs.Circuit.{names}
use Rattle.eco_netlist.specs.Netlists.{names_at}
use Rattle.eco_outside.specs.Store.{Files}
use Rattle.eco_change.specs.Change.{ChangeValue}
use Rattle.eco_words.specs.CommandLine.{LocateOptions}
use Rattle.eco_inputs.specs.declared.changes.ChangeInputs.{ChangeInputs}
use Rattle.eco_inputs.specs.Changes.{change_rows, fit_row}
use Rattle.eco_choices.specs.Choices.{IsChoice}
use Rattle.eco_inputs.specs.Inputs.{determined_input}
use Rattle.eco_inputs.specs.Nets.{nets_row}
use Rattle.eco_inputs.specs.Paths.{paths_row}
use Rattle.eco_inputs.specs.Rows.{IsRow, named_row}
use Rattle.eco_inputs.proofs.ChangeLaws.{change_law, fit_law}
use Rattle.eco_inputs.proofs.NetLaws.{nets_law}
use Rattle.eco_inputs.proofs.PathLaws.{repeat_law}
use Rattle.eco_inputs.proofs.RowLaws.{named_law, test_law, then_law}
use Rattle.eco_cli.specs.declared.locate.LocateStop.{LocateStop}
use Rattle.eco_cli.specs.declared.locate.LocateStop.TheVariants.{SamePath, NoChange, BadNet, NoChoice}
use Rattle.eco_cli.specs.Choice.{IsLeftWrong}
use Rattle.eco_cli.specs.Locate.{HasCut, IsHopeless, asked_rows, changes_rows, cut_row, determined_locate, from_change, from_change_paths, is_hopeless, locate_files_of, locate_rows, locate_rules, rules_for}
use Rattle.eco_cli.specs.Rules.{IsLawful}

-- ---- the rows, the last ones first

fit_named : (given : ChangeInputs) (files : Files) → IsRow determined_locate (from_change given) (Some files)
fit_named given files = named_law determined_input determined_locate NoChange (fit_row given) (Some files) (λ a b same. ap NoChange same) (fit_law given files)

paths_law : (options : LocateOptions) (files : Files) → IsRow determined_locate (from_change_paths options) (Some files)
paths_law options files =
    then_law determined_locate (named_row NoChange (change_rows options.change)) from_change (Some files)
    (named_law determined_input determined_locate NoChange (change_rows options.change) (Some files) (λ a b same. ap NoChange same)
    (change_law options.change files))
    (λ given. fit_named given files)

changes_law : (options : LocateOptions) (files : Files) → IsRow determined_locate (changes_rows options) (Some files)
changes_law options files =
    then_law determined_locate (named_row SamePath (paths_row (locate_files_of options))) (λ _. from_change_paths options) (Some files)
    (named_law (λ own. own) determined_locate SamePath (paths_row (locate_files_of options)) (Some files) (λ a b same. ap SamePath same)
    (repeat_law (locate_files_of options) files))
    (λ _. paths_law options files)

-- where each net is excluded, something has to be cut, and no net suffices
no_hope : (change : ChangeValue) (limit : ℕ) (text : List ℕ) → IsHopeless change limit text → HasCut change → ⊥
no_hope change limit text h (inl none) = none h.found.wrong.0 h.found.wrong.1
no_hope change limit text h (inr (net, driven, choice)) =
    elim (h.found.complete.complete net driven) [
      | inl listed ↦
          Contains_none net (subst (λ nets. Contains (names_at (names change.old) nets) net) h.unlisted listed)
      | inr (inl over) ↦
          Contains_none net (subst (λ opens. Contains (names_at (names change.old) (map (λ o. o.net) opens)) net) h.answered over)
      | inr (inr excluded) ↦ choice excluded.input excluded.wrong
    ]

cut_law : (nets : List (List ℕ)) (options : LocateOptions) (change : ChangeValue) (files : Files) → IsRow determined_locate (named_row NoChoice (cut_row nets options change)) (Some files)
cut_law [] options change files =
    named_law (λ _. []) determined_locate NoChoice (cut_row [] options change) (Some files) (λ a b same. refl)
    (test_law (λ _. []) (IsHopeless change options.budget) (HasCut change) change (Some files) (λ a b x y. refl) (no_hope change options.budget))
cut_law (net ∷ nets) options change files =
    named_law (λ _. []) determined_locate NoChoice (cut_row (net ∷ nets) options change) (Some files) (λ a b same. refl)
    (test_law (λ _. []) (IsLeftWrong change (net ∷ nets)) (IsChoice change.old change.goal (net ∷ nets)) change (Some files) (λ a b x y. refl)
    (λ text left choice. choice left.input left.still))

asked_law : (nets : List (List ℕ)) (options : LocateOptions) (files : Files) → IsRow determined_locate (asked_rows nets options) (Some files)
asked_law nets options files =
    then_law determined_locate (changes_rows options) (λ change. named_row BadNet (nets_row change.old nets change)) (Some files) (changes_law options files)
    (λ change. named_law (λ own. own) determined_locate BadNet (nets_row change.old nets change) (Some files) (λ a b same. ap BadNet same) (nets_law change.old nets change files))

rows_law : (nets : List (List ℕ)) (options : LocateOptions) (files : Files) → IsRow determined_locate (locate_rows nets options) (Some files)
rows_law nets options files =
    then_law determined_locate (asked_rows nets options) (λ change. named_row NoChoice (cut_row nets options change)) (Some files)
    (asked_law nets options files) (λ change. cut_law nets options change files)

determined_no : (why : LocateStop) → is_hopeless (determined_locate why) ≡ is_hopeless why
determined_no (SamePath file) = refl
determined_no (NoChange error) = refl
determined_no (BadNet fault) = refl
determined_no (NoChoice text) = refl

-- where there is a change, and the nets can be cut, nothing is refused
unrefused : (nets : List (List ℕ)) (options : LocateOptions) (files : Files) (change : ChangeValue) → (asked_rows nets options).passes (Some files) change → (why : LocateStop) → (locate_rows nets options).stands (Some files) why → is_hopeless why ≡ true
unrefused nets options files change passed why (inl stands) = absurd ((asked_law nets options files).apart why change stands passed)
unrefused nets options files change passed why (inr (other, also, hopeless)) = ap is_hopeless hopeless.1

rules_law : (nets : List (List ℕ)) (options : LocateOptions) → IsLawful (rules_for nets options)
rules_law nets options = record { rows = rows_law nets options; determined = determined_no; asked = unrefused nets options }

pub locate_law : (options : LocateOptions) → IsLawful (locate_rules options)
locate_law options = rules_law options.nets options
