-- The command `locate`: its files, its rows, from the words to the question whether nets can be cut, why it stops, and what it means
-- that it succeeds.
use Rattle.std.specs.Prelude.{◌≡◌, ◌⊎◌, ℕ, Bool, true, false, List, [], ◌∷◌, ◌++◌, map, codes, Contains, Option, Some, None}
use Rattle.std.specs.List.{slice_get}
use Rattle.std.specs.Option.{option_map}
use Rattle.eco_meaning.specs.Circuit.{Circuit, IsDriven, names}
use Rattle.eco_meaning.specs.Meaning.{IsRectifiable}
use Rattle.eco_netlist.specs.Netlists.{name_at}
use Rattle.eco_outside.specs.Store.{Files}
use Rattle.eco_choices.specs.Choices.{IsChoice}
use Rattle.eco_query.specs.Problem.{ProblemValue}
use Rattle.eco_pose.specs.declared.question.Question.TheVariants as questions
use Rattle.eco_pose.specs.declared.unfinished.Stuck.{Stuck}
use Rattle.eco_pose.specs.Stuck.{IsGivenUp}
use Rattle.eco_change.specs.Change.{ChangeValue}
use Rattle.eco_locate.specs.declared.answer.Located.{Located}
use Rattle.eco_locate.specs.declared.answer.Open.{Open}
use Rattle.eco_locate.specs.declared.ranking.Ranked.{Ranked}
use Rattle.eco_locate.specs.Comparing.{NoneIsWrong}
use Rattle.eco_locate.specs.Moves.{IsRearranged}
use Rattle.eco_words.specs.CommandLine.{LocateOptions}
use Rattle.eco_inputs.specs.declared.changes.ChangeInputs.{ChangeInputs}
use Rattle.eco_inputs.specs.declared.paths.FileOption.{FileOption}
use Rattle.eco_inputs.specs.declared.paths.FileOption.TheVariants.{Cut}
use Rattle.eco_inputs.specs.Changes.{change_rows, fit_row, long_change}
use Rattle.eco_inputs.specs.Inputs.{determined_input}
use Rattle.eco_inputs.specs.Nets.{net_fault_text, nets_row}
use Rattle.eco_inputs.specs.Paths.{FilesBy, change_files_of, change_path_of, paths_row}
use Rattle.eco_inputs.specs.Reading.{Oversize}
use Rattle.eco_inputs.specs.Rows.{Row, named_row, test_row, then_row}
use Rattle.eco_inputs.specs.Texts.{input_text}
use Rattle.eco_cli.specs.declared.locate.LocateStop.{LocateStop}
use Rattle.eco_cli.specs.declared.locate.LocateStop.TheVariants.{SamePath, NoChange, BadNet, NoChoice}
use Rattle.eco_cli.specs.declared.answer.Answer.{Answer}
use Rattle.eco_cli.specs.declared.locate.Said.{Said}
use Rattle.eco_cli.specs.Answers.{IsSpentAnswer, IsTextAnswer, Write}
use Rattle.eco_cli.specs.Choice.{IsChoiceCut, IsChoiceStuck, IsCutText, IsLeftWrong}
use Rattle.eco_cli.specs.Found.{IsFound, found_text}
use Rattle.eco_cli.specs.Printing.{budget_text}
use Rattle.eco_cli.specs.Rules.{Rules}

-- ---- its files

-- the path that the command gives for an option; nothing where it gives none
abbrev pub locate_path_of : LocateOptions → FileOption → List ℕ
locate_path_of options Cut = options.cut
locate_path_of options file = change_path_of options.change file

-- its files: those of the change, and the netlist with nets cut
abbrev pub locate_files_of : LocateOptions → FilesBy FileOption
locate_files_of options = change_files_of options.change ++ (Cut, Some options.cut) ∷ []

-- ---- the rows

-- nothing has to be cut, or cutting one net suffices
abbrev pub HasCut : ChangeValue → Type 0
HasCut change =
    NoneIsWrong change.old change.goal
    ⊎ ((net : List ℕ) × IsDriven change.old net × IsChoice change.old change.goal (net ∷ []))

-- each net that a gate drives is excluded, which the text tells
pub record IsHopeless (change : ChangeValue) (limit : ℕ) (text : List ℕ) : Type 0 where
  pub located : Located
  pub unlisted : located.listed.items ≡ []
  pub answered : located.over.items ≡ []
  pub found : IsFound change limit [] located text

-- where the words name no nets, each is excluded, or nothing has to be cut or one suffices; else some input is wrong with these nets
-- cut, or they suffice
abbrev pub cut_row : List (List ℕ) → LocateOptions → ChangeValue → Row (Option Files) (List ℕ) ChangeValue
cut_row [] options change = test_row (IsHopeless change options.budget) (HasCut change) change
cut_row (net ∷ nets) options change =
    test_row (IsLeftWrong change (net ∷ nets)) (IsChoice change.old change.goal (net ∷ nets)) change

-- ---- the rows in order, the last ones first

abbrev pub LocateRows : Type 1
LocateRows = Row (Option Files) LocateStop ChangeValue

-- whether the netlists are a change
abbrev pub from_change : ChangeInputs → LocateRows
from_change given = named_row NoChange (fit_row given)

-- the files, and behind them whether they are a change
abbrev pub from_change_paths : LocateOptions → LocateRows
from_change_paths options = then_row (named_row NoChange (change_rows options.change)) from_change

-- the rows that come to a change
abbrev pub changes_rows : LocateOptions → LocateRows
changes_rows options = then_row (named_row SamePath (paths_row (locate_files_of options))) (λ _. from_change_paths options)

-- and the nets that the words name, which can be cut
abbrev pub asked_rows : List (List ℕ) → LocateOptions → LocateRows
asked_rows nets options = then_row (changes_rows options) (λ change. named_row BadNet (nets_row change.old nets change))

-- all rows of the command
abbrev pub locate_rows : List (List ℕ) → LocateOptions → LocateRows
locate_rows nets options = then_row (asked_rows nets options) (λ change. named_row NoChoice (cut_row nets options change))

-- ---- why it stops

-- what is printed of a stop
abbrev pub locate_text : LocateOptions → LocateStop → List ℕ
locate_text options (SamePath file) = codes "refused samepath " ++ locate_path_of options file ++ codes "\n"
locate_text options (NoChange error) = input_text error
locate_text options (BadNet fault) = net_fault_text options.nets fault
locate_text options (NoChoice text) = text

-- the stop is an answer of no: no net alone suffices, or those that the words name don't
abbrev pub is_hopeless : LocateStop → Bool
is_hopeless (SamePath file) = false
is_hopeless (NoChange error) = false
is_hopeless (BadNet fault) = false
is_hopeless (NoChoice text) = true

-- the file, where the stop is that it is too long
abbrev pub long_locate : LocateOptions → LocateStop → Option Oversize
long_locate options (SamePath file) = None
long_locate options (NoChange error) = long_change options.change error
long_locate options (BadNet fault) = None
long_locate options (NoChoice text) = None

-- the stop with what is left open taken out: which loop is shown, which place of an error of the grammar, which inputs are told
abbrev pub determined_locate : LocateStop → LocateStop
determined_locate (SamePath file) = SamePath file
determined_locate (NoChange error) = NoChange (determined_input error)
determined_locate (BadNet fault) = BadNet fault
determined_locate (NoChoice text) = NoChoice []

-- ---- its success

-- the netlists are equal on the cared inputs: nothing is written
pub record IsUnchanged (change : ChangeValue) (writes : List Write) (text : List ℕ) : Type 0 where
  pub equal : NoneIsWrong change.old change.goal
  pub none : writes ≡ []
  pub told : text ≡ codes "equal\n"

-- A net can be cut. The first one that is told is cut in the netlist as which the written bytes are read, and this netlist can be
-- rectified.
pub record IsCutOut (options : LocateOptions) (change : ChangeValue) (writes : List Write) (text : List ℕ) : Type 0 where
  pub located : Located
  pub first : Ranked
  pub rest : List Ranked
  pub found : IsFound change options.budget (first ∷ rest) located text
  pub bytes : List ℕ
  pub netlist : Circuit
  pub written : writes ≡ record { path = options.cut; bytes = bytes } ∷ []
  pub is_cut : IsCutText change (name_at (names change.old) first.net.0 ∷ []) bytes netlist
  pub rectifiable : IsRectifiable netlist change.goal

-- where the words name no nets, nothing has to be cut, or a net is cut; else these are cut
abbrev pub IsLocateAnswer : List (List ℕ) → LocateOptions → ChangeValue → List Write → List ℕ → Type 0
IsLocateAnswer [] options change writes text = IsUnchanged change writes text ⊎ IsCutOut options change writes text
IsLocateAnswer (net ∷ nets) options change writes text = IsChoiceCut options change (net ∷ nets) writes text

-- ---- a question that was given up

-- the netlist that is to be changed and what is asked of it, with no weights
abbrev pub unweighted : ChangeValue → ProblemValue
unweighted change = record { implementation = change.old; goal = change.goal; weights = []; input_weight = 0 }

-- the question whether the netlists are equal
pub record IsComparedStuck (options : LocateOptions) (change : ChangeValue) (stuck : Stuck) (text : List ℕ) : Type 0 where
  pub question : stuck.question ≡ questions.Equal change.old change.goal.spec change.goal.care
  pub given_up : IsGivenUp (unweighted change) options.budget stuck
  pub told : text ≡ budget_text options.budget stuck

-- the question of a net that is left open, where no net is listed
pub record IsNetStuck (options : LocateOptions) (change : ChangeValue) (stuck : Stuck) (text : List ℕ) : Type 0 where
  pub located : Located
  pub unlisted : located.listed.items ≡ []
  pub over : Open
  pub among : Contains located.over.items over
  pub is : over.stuck ≡ stuck
  pub found : IsFound change options.budget [] located text

-- where the words name no nets, the one or the other; else the question whether these suffice
abbrev pub IsLocateStuck : List (List ℕ) → LocateOptions → ChangeValue → Stuck → List ℕ → Type 0
IsLocateStuck [] options change stuck text = IsComparedStuck options change stuck text ⊎ IsNetStuck options change stuck text
IsLocateStuck (net ∷ nets) options change stuck text = IsChoiceStuck options change (net ∷ nets) stuck text

-- the command, where the words name these nets
abbrev pub rules_for : List (List ℕ) → LocateOptions → Rules
rules_for nets options = record {
  Stop = LocateStop;
  Value = ChangeValue;
  rows = locate_rows nets options;
  Matter = ChangeValue;
  asking = asked_rows nets options;
  gives_up = IsLocateStuck nets options;
  too_long = long_locate options;
  is_no = is_hopeless;
  says = locate_text options;
  determine = determined_locate;
  answers = IsLocateAnswer nets options;
}

-- the command, at these options
abbrev pub locate_rules : LocateOptions → Rules
locate_rules options = rules_for options.nets options

-- ---- between its stages

-- what is printed of the nets, with the listed ones in some order, and the first of these
pub record IsSaid (f : Circuit) (located : Located) (said : Said) : Type 0 where
  pub nets : List Ranked
  pub ranked : IsRearranged located.listed.items (map (λ r. r.net) nets)
  pub first : said.first ≡ option_map (λ r. r.net) (slice_get nets 0)
  pub text : said.text.items ≡ found_text f nets located

-- it tells of one of the questions that were given up, or, where there is none, that each net is excluded
abbrev pub IsOpenAnswer : LocateOptions → Located → List ℕ → Answer → Type 0
IsOpenAnswer options located text answer =
    ((over : Open) × Contains located.over.items over × IsSpentAnswer text over.stuck answer)
    ⊎ ((located.over.items ≡ []) × IsTextAnswer 1 text answer)
