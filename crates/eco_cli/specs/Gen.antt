-- The command `gen`: the problem that it draws, what it prints of the patch, and what it means that it succeeds.
use Rattle.std.specs.Prelude.{◌≡◌, ◌⊎◌, ℕ, false, List, [], ◌++◌, codes, decimal, length, Option, Some, None}
use Rattle.eco_gen.specs.Instance.{drawn_problem}
use Rattle.eco_meaning.specs.Circuit.{Circuit}
use Rattle.eco_meaning.specs.Report.{PatchReport, Meets, IsFrugal, base_of}
use Rattle.eco_outside.specs.Store.{Files}
use Rattle.eco_pose.specs.Stuck.{IsStuck, NoneCompared}
use Rattle.eco_pose.specs.declared.unfinished.Stuck.{Stuck}
use Rattle.eco_query.specs.Problem.{ProblemValue}
use Rattle.eco_targets.specs.declared.Made.{Made}
use Rattle.eco_words.specs.CommandLine.{GenOptions}
use Rattle.eco_cli.specs.declared.draw.Drawn.{Drawn}
use Rattle.eco_cli.specs.Answers.{IsSpentAnswer, IsTextAnswer, Write}
use Rattle.eco_inputs.specs.Rows.{Row, value_row}
use Rattle.eco_cli.specs.Rules.{Rules}
use Rattle.eco_cli.specs.Printing.{budget_text}

-- the problem that is drawn for the numbers of the words
abbrev pub drawn : GenOptions → ProblemValue
drawn options = drawn_problem options.seed options.size options.targets

-- the command's one row, at which nothing stops it: it is passed with that problem
abbrev pub drawn_row : GenOptions → Row (Option Files) ⊥ ProblemValue
drawn_row options = value_row (drawn options)

-- ---- what is printed

-- the first line, which tells the numbers
abbrev pub instance_text : GenOptions → List ℕ
instance_text options =
    codes "instance " ++ decimal options.seed ++ codes " " ++ decimal options.size ++ codes " " ++ decimal options.targets ++ codes "\n"

-- the summary of a report: behind the first line its cost, the patch's gates, and the base signals of all targets together
abbrev pub summary_text : GenOptions → PatchReport → List ℕ
summary_text options report =
    instance_text options ++ codes "cost " ++ decimal report.cost ++ codes "\ngates " ++ decimal report.gates
    ++ codes "\nbase " ++ decimal (length (base_of report)) ++ codes "\n"

-- what is printed of a question that was given up
abbrev pub spent_text : GenOptions → Stuck → List ℕ
spent_text options stuck = instance_text options ++ budget_text options.budget stuck

-- ---- its success

-- the patch p, the patched netlist and the report solve the problem that is drawn for the numbers, and are frugal
pub record SolvesDrawn (options : GenOptions) (p spliced : Circuit) (report : PatchReport) : Type 0 where
  pub meets : Meets (drawn options).implementation (drawn options).goal (drawn options).weights (drawn options).input_weight p spliced report
  pub frugal : IsFrugal (drawn options).implementation (drawn options).goal (drawn options).weights (drawn options).input_weight p report

-- no file is written; some patch, patched netlist and report solve the drawn problem, and the summary of the report is printed
pub record IsSummarised (options : GenOptions) (writes : List Write) (printed : List ℕ) : Type 0 where
  pub none : writes ≡ []
  pub p : Circuit
  pub spliced : Circuit
  pub report : PatchReport
  pub solves : SolvesDrawn options p spliced report
  pub text : printed ≡ summary_text options report

-- the command, at these options; it never stops
abbrev pub gen_rules : GenOptions → Rules
gen_rules options = record {
  Stop = ⊥;
  Value = ProblemValue;
  rows = drawn_row options;
  Matter = ProblemValue;
  asking = drawn_row options;
  gives_up = λ problem stuck text. IsStuck problem NoneCompared options.budget stuck × (text ≡ spent_text options stuck);
  too_long = λ why. None;
  is_no = λ why. false;
  says = λ why. [];
  determine = λ why. why;
  answers = λ problem. IsSummarised options;
}

-- ---- between its stages

-- what was made solves the drawn problem and is kept, and the answer is its summary
pub record KeepsMade (options : GenOptions) (made : Made) (ending : Drawn) : Type 0 where
  pub solves : SolvesDrawn options made.patch made.out made.report
  pub kept : ending.made ≡ Some made
  pub answer : IsTextAnswer 0 (summary_text options made.report) ending.answer

-- a question on the drawn problem was given up, which the answer tells, and nothing that was made is kept
pub record KeepsStuck (options : GenOptions) (stuck : Stuck) (ending : Drawn) : Type 0 where
  pub given_up : IsStuck (drawn options) NoneCompared options.budget stuck
  pub kept : ending.made ≡ None
  pub answer : IsSpentAnswer (spent_text options stuck) stuck ending.answer

-- one of the two
abbrev pub IsDrawnAnswer : GenOptions → Drawn → Type 0
IsDrawnAnswer options ending =
    ((made : Made) × KeepsMade options made ending) ⊎ ((stuck : Stuck) × KeepsStuck options stuck ending)
