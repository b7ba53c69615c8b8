-- What a run of the program leaves, status by status.
use Rattle.std.specs.Prelude.{◌≡◌, ◌⊎◌, ◌↔◌, ℕ, ◌==◌, ◌||◌, Bool, true, List, Option, IfSome, IsSome}
use Rattle.eco_outside.specs.Store.{StoreView}
use Rattle.eco_outside.specs.Sink.{SinkView, PutFails, append_piece}
use Rattle.eco_words.specs.CommandLine.{AsksHelp, Command, GenOptions, IsMisuse, IsGen, IsGiven, IsMisnumbered}
use Rattle.eco_words.specs.declared.answer.NumberOption.{NumberOption}
use Rattle.eco_pose.specs.declared.unfinished.Stuck.{Stuck}
use Rattle.eco_targets.specs.declared.Made.{Made}
use Rattle.eco_cli.specs.Answers.{IsFrontWritten, IsWriteStopped, Write, put_all}
use Rattle.eco_cli.specs.Commands.{rules_of}
use Rattle.eco_cli.specs.Gen.{SolvesDrawn, summary_text}
use Rattle.eco_cli.specs.Rules.{IsAbandoned, IsHalted, IsSuccess}
use Rattle.eco_cli.specs.Printing.{usage_text}

-- a call of the program: its words, and the store and the sink before and behind it
pub record Call : Type 0 where
  pub words : List (List ℕ)
  pub store_before : StoreView
  pub store_after : StoreView
  pub sink_before : SinkView
  pub sink_after : SinkView

abbrev pub call_of : List (List ℕ) → StoreView → StoreView → SinkView → SinkView → Call
call_of words store_before store_after sink_before sink_after = record {
  words = words;
  store_before = store_before;
  store_after = store_after;
  sink_before = sink_before;
  sink_after = sink_after;
}

-- ---- what a run comes to, and the text that it is to print

-- The words are a command, and no row of it stops it; these writes and the text answer what its rows come to.
pub record IsAnswer (call : Call) (writes : List Write) (text : List ℕ) : Type 0 where
  pub asked : Command
  pub command : IsGiven call.words asked
  pub success : IsSuccess (rules_of asked) call.store_before writes text

-- such an answer is written: the files are those before, with the writes in their places
pub record IsPerformed (call : Call) (text : List ℕ) : Type 0 where
  pub writes : List Write
  pub answer : IsAnswer call writes text
  pub files : call.store_after.files ≡ put_all call.store_before.files writes

-- The words are a command, and it stops, with this status and its text: for a cause that stands where no earlier row stops
-- it, or because a file can't be read that it comes to read. No file is changed.
pub record IsStopped (call : Call) (status : ℕ) (text : List ℕ) : Type 0 where
  pub asked : Command
  pub command : IsGiven call.words asked
  pub halted : IsHalted (rules_of asked) call.store_before call.store_after status text
  pub files : call.store_after.files ≡ call.store_before.files

-- The words are a command, and a question to the search was given up, where no row before it stops the command. No file is
-- changed.
pub record IsLeftOpen (call : Call) (stuck : Stuck) (text : List ℕ) : Type 0 where
  pub asked : Command
  pub command : IsGiven call.words asked
  pub given_up : IsAbandoned (rules_of asked) call.store_before stuck text
  pub files : call.store_after.files ≡ call.store_before.files

-- the words ask for help or for the version; the store was not touched
pub record IsHelped (call : Call) : Type 0 where
  pub asked : AsksHelp call.words
  pub untouched : call.store_after ≡ call.store_before

-- clap finds no error in the words, but what they give to an option is no number that it may have, and the text names
-- the option
abbrev pub NamesOption : List (List ℕ) → List ℕ → Type 0
NamesOption words text = (option : NumberOption) × IsMisnumbered words option × (text ≡ usage_text option)

-- the words have an error, or are misnumbered, which the text says; the store was not touched
pub record IsMisused (call : Call) (text : List ℕ) : Type 0 where
  pub cause : IsMisuse call.words ⊎ NamesOption call.words text
  pub untouched : call.store_after ≡ call.store_before

-- ---- what it prints, what it keeps, and its status

-- just this was printed
abbrev pub IsPrinted : Call → List ℕ → Type 0
IsPrinted call text = call.sink_after.written ≡ append_piece call.sink_before.written text

-- the words are the command `gen`
abbrev pub AsksInstance : List (List ℕ) → Type 0
AsksInstance words = (options : GenOptions) × IsGen words options

-- The words are the command `gen`; what was made solves the problem that is drawn for their numbers and is frugal; and just
-- its summary was printed.
pub record IsShown (call : Call) (made : Made) : Type 0 where
  pub options : GenOptions
  pub command : IsGen call.words options
  pub solves : SolvesDrawn options made.patch made.out made.report
  pub printed : IsPrinted call (summary_text options made.report)

-- what was made is kept where the command `gen` ends with status 0, and nowhere else
pub record IsKept (call : Call) (status : ℕ) (made : Option Made) : Type 0 where
  pub shown : IfSome made (IsShown call)
  pub just : IsSome made ↔ ((status ≡ 0) × AsksInstance call.words)

-- status 0: what the command asks for is done, or the help that was asked for is given
abbrev pub IsDone : Call → Type 0
IsDone call = (text : List ℕ) × IsPrinted call text × (IsPerformed call text ⊎ IsHelped call)

-- status 1, 3 or 5: the answer is no, the input is refused, a file can't be read
abbrev pub IsRefused : Call → ℕ → Type 0
IsRefused call status = (text : List ℕ) × IsPrinted call text × IsStopped call status text

-- status 2: the words have an error, or give an option no number that it may have
abbrev pub IsUsage : Call → Type 0
IsUsage call = (text : List ℕ) × IsPrinted call text × IsMisused call text

-- status 4: a question was given up
abbrev pub IsBudgetSpent : Call → Stuck → Type 0
IsBudgetSpent call stuck = (text : List ℕ) × IsPrinted call text × IsLeftOpen call stuck text

-- The store failed at a write of an answer: a front of the writes stands whole, the next one in part, no other file is
-- changed, and nothing is printed.
pub record IsUnwritten (call : Call) : Type 0 where
  pub writes : List Write
  pub text : List ℕ
  pub answer : IsAnswer call writes text
  pub stopped : IsWriteStopped call.store_before call.store_after writes
  pub silent : call.sink_after ≡ call.sink_before

-- what the run came to with this text, whatever its status was to be
abbrev pub IsDecided : Call → List ℕ → Type 0
IsDecided call text =
    IsPerformed call text ⊎ IsHelped call ⊎ IsMisused call text ⊎ ((status : ℕ) × IsStopped call status text)
    ⊎ ((stuck : Stuck) × IsLeftOpen call stuck text)

-- the sink failed at the text: its count of faults rose, and it took a front part of the text
abbrev pub IsUnprinted : Call → Type 0
IsUnprinted call = (text : List ℕ) × PutFails call.sink_before call.sink_after text × IsDecided call text

-- status 6: a write failed, of a file or of what is printed
abbrev pub IsWriteFault : Call → Type 0
IsWriteFault call = IsUnwritten call ⊎ IsUnprinted call

-- a front of the writes of an answer stands whole, and no other file is changed
pub record IsWrittenWhole (call : Call) : Type 0 where
  pub writes : List Write
  pub text : List ℕ
  pub answer : IsAnswer call writes text
  pub front : IsFrontWritten call.store_before call.store_after writes

-- status 7: memory could not be had; nothing is printed, and no file is left in part
pub record IsCutShort (call : Call) : Type 0 where
  pub unprinted : call.sink_after.written ≡ call.sink_before.written
  pub files : (call.store_after.files ≡ call.store_before.files) ⊎ IsWrittenWhole call

-- the statuses of stops, which come before a file is written
abbrev pub is_early_status : ℕ → Bool
is_early_status status = status == 1 || status == 3 || status == 5

-- the statuses that a run may end with
abbrev pub is_status : ℕ → Bool
is_status status =
    status == 0 || status == 1 || status == 2 || status == 3 || status == 4 || status == 5 || status == 6 || status == 7

-- what a run leaves that ends with this status, and with this question where one was given up
pub record IsAnswered (call : Call) (status : ℕ) (kept : Option Stuck) : Type 0 where
  pub done : status ≡ 0 → IsDone call
  pub refused : is_early_status status ≡ true → IsRefused call status
  pub usage : status ≡ 2 → IsUsage call
  pub spent : IfSome kept (IsBudgetSpent call)
  pub keeps : (status ≡ 4) ↔ IsSome kept
  pub fault : status ≡ 6 → IsWriteFault call
  pub cut : status ≡ 7 → IsCutShort call
  pub known : is_status status ≡ true
