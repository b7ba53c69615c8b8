-- The texts that are read as reports, and the line at fault of any other text.
use Rattle.std.specs.Prelude.{◌≡◌, ◌≢◌, ◌⊎◌, ℕ, ◌+◌, ◌^◌, ◌≤◌, ◌<◌, List, [], ◌∷◌, ◌++◌, IfSome, length, codes, decimal, IsTrue}
use Rattle.std.specs.List.{flat_map, AllByRecursion}
use Rattle.eco_meaning.specs.Names.{is_name}
use Rattle.eco_meaning.specs.Bound.{Part, Bound}
use Rattle.eco_meaning.specs.Report.{BaseSignal, TargetGroup, Least, PatchReport}
use Rattle.eco_report.specs.Texts.{text_of, unrectifiable_text}
use Rattle.eco_report.specs.declared.file.Word.{Word}
use Rattle.eco_report.specs.declared.file.Word.TheVariants.{Rect, Sep, Fix, Eq}
use Rattle.eco_report.specs.declared.file.ReportFile.{ReportFile}
use Rattle.eco_report.specs.declared.file.ReportFile.TheVariants.{Patched, Unrectifiable, Budget}
use Rattle.eco_report.specs.declared.error.ReportError.{ReportError}
use Rattle.eco_report.specs.declared.error.ReportError.TheVariants.{Line, OutOfMemory}

-- the word of a kind of question
abbrev pub word_text : Word → List ℕ
word_text Rect = codes "rect"
word_text Sep = codes "sep"
word_text Fix = codes "fix"
word_text Eq = codes "eq"

-- `budget WORD LIMIT`
abbrev pub budget_text : Word → ℕ → List ℕ
budget_text word limit = codes "budget " ++ word_text word ++ codes " " ++ decimal limit ++ codes "\n"

-- the text of what a report's text tells
abbrev pub file_text : ReportFile → List ℕ
file_text (Patched report) = text_of report
file_text (Unrectifiable input) = unrectifiable_text input
file_text (Budget word limit) = budget_text word limit

-- a base signal with a name and a weight of 32 bits
pub record IsBaseSignal (b : BaseSignal) : Type 0 where
  pub name : IsTrue (is_name b.signal)
  pub weight : b.weight < 2 ^ 32

-- a target with a name and a number of base signals of 64 bits
pub record IsTargetGroup (g : TargetGroup) : Type 0 where
  pub name : IsTrue (is_name g.target)
  pub count : length g.base < 2 ^ 64
  pub base : AllByRecursion IsBaseSignal g.base

-- a part with an amount of 32 bits that isn't 0
pub record IsBoundPart (p : Part) : Type 0 where
  pub least : 1 ≤ p.amount
  pub most : p.amount < 2 ^ 32

-- a bound with a total and a number of parts of 64 bits
pub record IsReportBound (b : Bound) : Type 0 where
  pub total : b.total < 2 ^ 64
  pub count : length b.parts < 2 ^ 64
  pub parts : AllByRecursion IsBoundPart b.parts

-- a target with a name, and a cost of 64 bits
pub record IsLeast (l : Least) : Type 0 where
  pub name : IsTrue (is_name l.target)
  pub cost : l.cost < 2 ^ 64

-- a patch's report with numbers of 64 bits
pub record IsPatchReport (r : PatchReport) : Type 0 where
  pub cost : r.cost < 2 ^ 64
  pub gates : r.gates < 2 ^ 64
  pub groups : AllByRecursion IsTargetGroup r.groups
  pub bound : IfSome r.bound IsReportBound
  pub least : AllByRecursion IsLeast r.least

-- what a report may tell
abbrev pub IsReport : ReportFile → Type 0
IsReport (Patched report) = IsPatchReport report
IsReport (Unrectifiable input) = Unit {0}
IsReport (Budget word limit) = (1 ≤ limit) × (limit < 2 ^ 32)

-- the bytes are the text of this report
pub record IsReportText (bytes : List ℕ) (file : ReportFile) : Type 0 where
  pub report : IsReport file
  pub text : bytes ≡ file_text file

-- these lines, each with its line feed
abbrev pub with_feeds : List (List ℕ) → List ℕ
with_feeds lines = flat_map (λ line. line ++ codes "\n") lines

-- the byte stands nowhere
abbrev pub IsFree : ℕ → List ℕ → Type 0
IsFree mark bytes = AllByRecursion (λ b. b ≢ mark) bytes

-- the lines of the bytes: what stands before each line feed, and what is left behind the last one
pub record AreLines (bytes : List ℕ) (ended : List (List ℕ)) (left : List ℕ) : Type 0 where
  pub cut : bytes ≡ with_feeds ended ++ left
  pub whole : AllByRecursion (IsFree 10) ended
  pub last : IsFree 10 left

-- what is left is a line where it is anything
abbrev pub and_left : List (List ℕ) → List ℕ → List (List ℕ)
and_left ended [] = ended
and_left ended (b ∷ left) = ended ++ (b ∷ left) ∷ []

-- some report's text begins with these lines
pub record CanBegin (lines : List (List ℕ)) : Type 0 where
  pub file : ReportFile
  pub more : List ℕ
  pub report : IsReport file
  pub text : file_text file ≡ with_feeds lines ++ more

-- the lines before the one of this number, counted from 1, can begin a report; together with it they can't
pub record IsWrongLine (lines : List (List ℕ)) (n : ℕ) : Type 0 where
  pub before : List (List ℕ)
  pub line : List ℕ
  pub after : List (List ℕ)
  pub cut : lines ≡ before ++ line ∷ after
  pub number : n ≡ length before + 1
  pub begins : CanBegin before
  pub fault : CanBegin (before ++ line ∷ []) → ⊥

-- the lines can begin a report, but the bytes are none; the number is that of the lines and one
pub record EndsEarly (bytes : List ℕ) (lines : List (List ℕ)) (n : ℕ) : Type 0 where
  pub number : n ≡ length lines + 1
  pub begins : CanBegin lines
  pub none : (file : ReportFile) → IsReportText bytes file → ⊥

-- the line of this number, counted from 1, is the first that can't stand there, or is missing
pub record IsFirstBadLine (bytes : List ℕ) (n : ℕ) : Type 0 where
  pub ended : List (List ℕ)
  pub left : List ℕ
  pub lines : AreLines bytes ended left
  pub fault : IsWrongLine (and_left ended left) n ⊎ EndsEarly bytes (and_left ended left) n

-- the text is refused for this; a want of memory tells nothing of it
abbrev pub IsRefused : List ℕ → ReportError → Type 0
IsRefused bytes (Line n) = IsFirstBadLine bytes n
IsRefused bytes OutOfMemory = Unit {0}
