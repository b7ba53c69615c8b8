-- What a command brings: the rows that it goes through, what it writes, and what its success and its stops mean.
use Rattle.std.specs.Prelude.{◌≡◌, ◌⊎◌, ℕ, Bool, true, List, [], Option, Some, if◌then◌else◌}
use Rattle.eco_outside.specs.Store.{Files, StoreView}
use Rattle.eco_pose.specs.declared.unfinished.Stuck.{Stuck}
use Rattle.eco_cli.specs.declared.answer.Answer.{Answer}
use Rattle.eco_cli.specs.Answers.{Write, code_of, failed_text, writes_of}
use Rattle.eco_inputs.specs.Reading.{Oversize, IsReported, IsReportedFailure}
use Rattle.eco_inputs.specs.Rows.{IsRow, Row}

-- the rules of a command, as its options make them
pub record Rules : Type 1 where
  -- why it stops
  pub Stop : Type 0
  -- what the rows come to, where none stops it
  pub Value : Type 0
  pub rows : Row (Option Files) Stop Value
  -- what its questions to a search are of
  pub Matter : Type 0
  -- the rows before the first of these questions
  pub asking : Row (Option Files) Stop Matter
  -- a question of it was given up, which this text tells
  pub gives_up : Matter → Stuck → List ℕ → Type 0
  -- the file, where it stops because one is too long
  pub too_long : Stop → Option Oversize
  -- the stop is an answer of no, and no refusal of the input
  pub is_no : Stop → Bool
  -- what is printed of a stop
  pub says : Stop → List ℕ
  -- the stop with what is left open taken out
  pub determine : Stop → Stop
  -- the value is answered by these writes and this text
  pub answers : Value → List Write → List ℕ → Type 0

-- the exit status of a stop: 1 for an answer of no, 3 for input that is refused
abbrev pub stop_code : (rules : Rules) → rules.Stop → ℕ
stop_code rules why = if rules.is_no why then 1 else 3

-- it stops for this: the cause stands in the words and, where the store tells them, in the files, and no earlier row stops
-- it; where a file is too long, the store tells so
pub record StopsFor (rules : Rules) (before after : StoreView) (why : rules.Stop) : Type 0 where
  pub stands : rules.rows.stands before.files why
  pub told : IsReported (rules.too_long why) before after

-- a file can't be read: the command comes to read it, since no earlier row stops it, and the store tells of the failure
pub record StopsAt (rules : Rules) (before after : StoreView) (path : List ℕ) : Type 0 where
  pub comes : rules.rows.reads before.files path
  pub told : IsReportedFailure path before after

-- it stops, with this exit status and text
abbrev pub IsHalted : Rules → StoreView → StoreView → ℕ → List ℕ → Type 0
IsHalted rules before after status text =
    ((why : rules.Stop) × (status ≡ stop_code rules why) × (text ≡ rules.says why) × StopsFor rules before after why)
    ⊎ ((path : List ℕ) × (status ≡ 5) × (text ≡ failed_text path) × StopsAt rules before after path)

-- no row stops it, and these writes, which say the files and their bytes, and this text answer what the rows come to
pub record IsSuccess (rules : Rules) (before : StoreView) (writes : List Write) (text : List ℕ) : Type 0 where
  pub value : rules.Value
  pub passed : rules.rows.passes before.files value
  pub answers : rules.answers value writes text

-- the rows before the first question are passed, and a question of what they come to was given up, which this text tells
pub record IsAbandoned (rules : Rules) (before : StoreView) (stuck : Stuck) (text : List ℕ) : Type 0 where
  pub matter : rules.Matter
  pub passed : rules.asking.passes before.files matter
  pub given_up : rules.gives_up matter stuck text

-- the answer keeps a question that was given up, and writes nothing
abbrev pub IsUndecided : Rules → StoreView → Answer → Type 0
IsUndecided rules before answer =
    (code_of answer.status ≡ 4) × (writes_of answer ≡ [])
    × ((stuck : Stuck) × (answer.stuck ≡ Some stuck) × IsAbandoned rules before stuck answer.text.items)

-- the answer is right, where nothing is written yet: it is a success, a stop that writes nothing, or keeps a question that
-- was given up
abbrev pub IsPrepared : Rules → StoreView → StoreView → Answer → Type 0
IsPrepared rules before after answer =
    ((code_of answer.status ≡ 0) × IsSuccess rules before (writes_of answer) answer.text.items)
    ⊎ ((writes_of answer ≡ []) × IsHalted rules before after (code_of answer.status) answer.text.items)
    ⊎ IsUndecided rules before answer

-- each stop that stands is an answer of no, and none a refusal
abbrev pub IsUnrefused : Rules → Option Files → Type 0
IsUnrefused rules told = (why : rules.Stop) → rules.rows.stands told why → rules.is_no why ≡ true

-- what every command's rules keep, so that its answer is one: where the store tells its files the rows have one outcome,
-- and what is left open changes no status; and where the first question is asked, no refusal stands
pub record IsLawful (rules : Rules) : Type 0 where
  pub rows : (files : Files) → IsRow rules.determine rules.rows (Some files)
  pub determined : (why : rules.Stop) → rules.is_no (rules.determine why) ≡ rules.is_no why
  pub asked : (files : Files) (matter : rules.Matter) → rules.asking.passes (Some files) matter → IsUnrefused rules (Some files)
