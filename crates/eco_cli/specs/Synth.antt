-- The command `synth`: its files, its rows, from the words to the question whether a patch helps, why it stops, and what it means
-- that it succeeds.
use Rattle.std.specs.Prelude.{◌≡◌, ◌⊎◌, ℕ, ◌≤◌, Bool, true, false, List, [], ◌∷◌, ◌++◌, codes, decimal, Option, Some, None}
use Rattle.eco_bound.specs.Lower.{IsLowerBound}
use Rattle.eco_meaning.specs.Bound.{Bound}
use Rattle.eco_meaning.specs.Circuit.{Circuit}
use Rattle.eco_meaning.specs.Meaning.{IsWrong, IsRectifiable}
use Rattle.eco_meaning.specs.Patch.{ReadsAllInputs}
use Rattle.eco_meaning.specs.Report.{PatchReport, Meets, AreGreedy, AreLeast}
use Rattle.eco_netlist.specs.declared.draft.TargetRule.TheVariants.{Never}
use Rattle.eco_outside.specs.Store.{Files}
use Rattle.eco_query.specs.Problem.{HasTargets, IsClosed, ProblemValue}
use Rattle.eco_pose.specs.Stuck.{IsStuck, NoneCompared}
use Rattle.eco_report.specs.Texts.{text_of, unrectifiable_text}
use Rattle.eco_targets.specs.declared.Made.{Made}
use Rattle.eco_plain.specs.Plain.{IsGatesText}
use Rattle.eco_words.specs.CommandLine.{SynthOptions}
use Rattle.eco_inputs.specs.declared.inputs.Inputs.{Inputs}
use Rattle.eco_inputs.specs.declared.paths.FileOption.{FileOption}
use Rattle.eco_inputs.specs.declared.paths.FileOption.TheVariants.{Patch, Out}
use Rattle.eco_inputs.specs.Inputs.{determined_input, input_rows, long_input, pair_row}
use Rattle.eco_inputs.specs.Paths.{FilesBy, paths_row, problem_files_of, problem_path_of}
use Rattle.eco_inputs.specs.Reading.{Oversize}
use Rattle.eco_inputs.specs.Rows.{Row, named_row, test_row, then_row}
use Rattle.eco_inputs.specs.Texts.{input_text}
use Rattle.eco_cli.specs.declared.synth.SynthStop.{SynthStop}
use Rattle.eco_cli.specs.declared.synth.SynthStop.TheVariants.{SamePath, NoProblem, BoundTargets, Unrectifiable}
use Rattle.eco_cli.specs.declared.synth.Texts.{Texts}
use Rattle.eco_cli.specs.declared.answer.Answer.{Answer}
use Rattle.eco_cli.specs.Answers.{Write, code_of, writes_of}
use Rattle.eco_cli.specs.Printing.{budget_text}
use Rattle.eco_cli.specs.Rules.{Rules}

-- ---- its files

-- the path that the command gives for an option; nothing where it gives none
abbrev pub path_of : SynthOptions → FileOption → List ℕ
path_of options Patch = options.patch
path_of options Out = options.out
path_of options file = problem_path_of options.problem file

-- its files: those of the problem, the patch and the patched netlist
abbrev pub files_of : SynthOptions → FilesBy FileOption
files_of options = problem_files_of options.problem ++ (Patch, Some options.patch) ∷ (Out, Some options.out) ∷ []

-- ---- the rows

-- a bound is asked for of an implementation with several targets
pub record AsksManyBounds (options : SynthOptions) (problem : ProblemValue) (stop : SynthStop) : Type 0 where
  pub asked : options.bound ≡ true
  pub count : ℕ
  pub targets : HasTargets problem.implementation count
  pub several : 2 ≤ count
  pub told : stop ≡ BoundTargets count

-- none is asked for, or there is one target
abbrev pub CanBound : SynthOptions → ProblemValue → Type 0
CanBound options problem = (options.bound ≡ false) ⊎ HasTargets problem.implementation 1

-- the one or the other
abbrev pub bound_row : SynthOptions → ProblemValue → Row (Option Files) SynthStop ProblemValue
bound_row options problem = test_row (AsksManyBounds options problem) (CanBound options problem) problem

-- some input of the problem is wrong; or none is
abbrev pub wrong_row : ProblemValue → Row (Option Files) (List Bool) ProblemValue
wrong_row problem =
    test_row (IsWrong problem.implementation problem.goal) (IsRectifiable problem.implementation problem.goal) problem

-- ---- the rows in order, the last ones first

abbrev pub SynthRows : Type 1
SynthRows = Row (Option Files) SynthStop ProblemValue

-- whether the netlists are a problem, and whether a bound may be asked of it
abbrev pub from_inputs : SynthOptions → Inputs → SynthRows
from_inputs options given = then_row (named_row NoProblem (pair_row options.problem given)) (bound_row options)

-- the files, and behind them whether they are a problem
abbrev pub from_paths : SynthOptions → SynthRows
from_paths options = then_row (named_row NoProblem (input_rows options.problem)) (from_inputs options)

-- the rows that come to a problem
abbrev pub problem_rows : SynthOptions → SynthRows
problem_rows options = then_row (named_row SamePath (paths_row (files_of options))) (λ _. from_paths options)

-- all rows of the command
abbrev pub synth_rows : SynthOptions → SynthRows
synth_rows options = then_row (problem_rows options) (λ problem. named_row Unrectifiable (wrong_row problem))

-- ---- why it stops

-- what is printed of a stop
abbrev pub stop_text : SynthOptions → SynthStop → List ℕ
stop_text options (SamePath file) = codes "refused samepath " ++ path_of options file ++ codes "\n"
stop_text options (NoProblem error) = input_text error
stop_text options (BoundTargets count) = codes "refused impl boundtargets " ++ decimal count ++ codes "\n"
stop_text options (Unrectifiable input) = unrectifiable_text input

-- the stop is an answer of no: an input is wrong
abbrev pub is_no : SynthStop → Bool
is_no (SamePath file) = false
is_no (NoProblem error) = false
is_no (BoundTargets count) = false
is_no (Unrectifiable input) = true

-- the file, where the stop is that it is too long
abbrev pub long_file : SynthOptions → SynthStop → Option Oversize
long_file options (SamePath file) = None
long_file options (NoProblem error) = long_input options.problem error
long_file options (BoundTargets count) = None
long_file options (Unrectifiable input) = None

-- the stop with what is left open taken out: which loop is shown, which place of an error of the grammar, which wrong input
abbrev pub determined : SynthStop → SynthStop
determined (SamePath file) = SamePath file
determined (NoProblem error) = NoProblem (determined_input error)
determined (BoundTargets count) = BoundTargets count
determined (Unrectifiable input) = Unrectifiable []

-- ---- its success

-- where a bound is asked for one is reported, to which no part can be added; else none is
pub record HasBoundAsked (options : SynthOptions) (problem : ProblemValue) (p : Circuit) (bound : Option Bound) : Type 0 where
  pub unasked : options.bound ≡ false → bound ≡ None
  pub asked : options.bound ≡ true → (least : Bound) × (bound ≡ Some least) × IsLowerBound problem p least

-- The patch reads all of its inputs. Where no effort for bases of least cost is asked for, they are the greedy choice, and of
-- no target it is told what it costs at least; where one is asked for, of each target it is told.
pub record IsThrifty (options : SynthOptions) (problem : ProblemValue) (p : Circuit) (r : PatchReport) : Type 0 where
  pub read : ReadsAllInputs p
  pub greedy : options.least ≡ None → AreGreedy problem.implementation problem.goal problem.weights problem.input_weight p r
  pub untold : options.least ≡ None → r.least ≡ []
  pub least : (effort : ℕ) → options.least ≡ Some effort → AreLeast problem.implementation problem.goal problem.weights problem.input_weight p r

-- The bytes of the patch and of the patched netlist, at their paths, are read as the netlists p and `spliced`; both and
-- the report solve the problem and are thrifty; a bound is reported where it is asked for; and the report's text is printed.
pub record IsSolved (options : SynthOptions) (problem : ProblemValue) (writes : List Write) (printed : List ℕ) : Type 0 where
  pub p : Circuit
  pub spliced : Circuit
  pub report : PatchReport
  pub patch : List ℕ
  pub out : List ℕ
  pub written : writes ≡ record { path = options.patch; bytes = patch } ∷ record { path = options.out; bytes = out } ∷ []
  pub patch_read : IsGatesText Never patch p
  pub out_read : IsGatesText Never out spliced
  pub meets : Meets problem.implementation problem.goal problem.weights problem.input_weight p spliced report
  pub thrifty : IsThrifty options problem p report
  pub bound : HasBoundAsked options problem p report.bound
  pub text : printed ≡ text_of report

-- the command, at these options
abbrev pub synth_rules : SynthOptions → Rules
synth_rules options = record {
  Stop = SynthStop;
  Value = ProblemValue;
  rows = synth_rows options;
  Matter = ProblemValue;
  asking = problem_rows options;
  gives_up = λ problem stuck text. IsStuck problem NoneCompared options.budget stuck × (text ≡ budget_text options.budget stuck);
  too_long = long_file options;
  is_no = is_no;
  says = stop_text options;
  determine = determined;
  answers = IsSolved options;
}

-- ---- between its stages

-- no target is left
pub record AreClosed (p spliced : Circuit) : Type 0 where
  pub patch : IsClosed p
  pub out : IsClosed spliced

-- what is made for the command before a bound is asked for: the report tells none
pub record IsChosenFor (options : SynthOptions) (problem : ProblemValue) (p spliced : Circuit) (report : PatchReport) : Type 0 where
  pub rectifiable : IsRectifiable problem.implementation problem.goal
  pub meets : Meets problem.implementation problem.goal problem.weights problem.input_weight p spliced report
  pub thrifty : IsThrifty options problem p report
  pub unbound : report.bound ≡ None
  pub closed : AreClosed p spliced

-- what is made for the command, with the bound where it is asked for
pub record IsMadeFor (options : SynthOptions) (problem : ProblemValue) (made : Made) : Type 0 where
  pub rectifiable : IsRectifiable problem.implementation problem.goal
  pub meets : Meets problem.implementation problem.goal problem.weights problem.input_weight made.patch made.out made.report
  pub thrifty : IsThrifty options problem made.patch made.report
  pub bound : HasBoundAsked options problem made.patch made.report.bound
  pub closed : AreClosed made.patch made.out

-- the texts are those of the netlists and of the report
pub record AreTexts (p spliced : Circuit) (report : PatchReport) (texts : Texts) : Type 0 where
  pub patch_read : IsGatesText Never texts.patch.items p
  pub out_read : IsGatesText Never texts.out.items spliced
  pub text : texts.report.items ≡ text_of report

-- the answer writes the texts to the files of the options, and prints the report
abbrev pub IsPatchAnswer : SynthOptions → Texts → Answer → Type 0
IsPatchAnswer options texts answer =
    (code_of answer.status ≡ 0)
    × (writes_of answer ≡ record { path = options.patch; bytes = texts.patch.items } ∷ record { path = options.out; bytes = texts.out.items } ∷ [])
    × (answer.text.items ≡ texts.report.items)

-- the answer writes the texts of what was made, and prints its report
abbrev pub IsMadeAnswer : SynthOptions → Made → Answer → Type 0
IsMadeAnswer options made answer =
    (texts : Texts) × AreTexts made.patch made.out made.report texts × IsPatchAnswer options texts answer
