-- The command `recheck`: its rows, from the words to the proof, why it stops, and what it means that it succeeds.
use Rattle.std.specs.Prelude.{◌≡◌, ◌≢◌, ℕ, Bool, true, false, List, [], ◌++◌, codes, decimal, Option, None}
use Rattle.eco_check.specs.Answers.{IsFirstBad, IsProved, IsUnfinished}
use Rattle.eco_check.specs.Steps.{StepValue}
use Rattle.eco_outside.specs.Store.{Files}
use Rattle.eco_trace.specs.Clauses.{Clauses, IsUnsatisfiable}
use Rattle.eco_trace.specs.Resolution.{Proof}
use Rattle.eco_words.specs.CommandLine.{RecheckOptions}
use Rattle.eco_inputs.specs.declared.TheConstants.{MOST_PROOF_BYTES}
use Rattle.eco_inputs.specs.declared.halt.FileError.{FileError}
use Rattle.eco_inputs.specs.declared.halt.Halt.{Halt}
use Rattle.eco_inputs.specs.declared.halt.Halt.TheVariants as halt
use Rattle.eco_cli.specs.declared.recheck.Flaw.{Flaw}
use Rattle.eco_cli.specs.declared.recheck.Flaw.TheVariants.{BadStep, NoEmptyClause}
use Rattle.eco_cli.specs.declared.recheck.RecheckStop.{RecheckStop}
use Rattle.eco_cli.specs.declared.recheck.RecheckStop.TheVariants.{SamePath, InClauses, InSteps, Flawed}
use Rattle.eco_cli.specs.Answers.{Write}
use Rattle.eco_inputs.specs.Kinds.{cnf_kind, determined_line, trace_kind}
use Rattle.eco_inputs.specs.Reading.{Oversize, file_row, oversize_of, determined_file}
use Rattle.eco_inputs.specs.Rows.{Row, named_row, test_row, then_row}
use Rattle.eco_inputs.specs.Texts.{line_error_text}
use Rattle.eco_cli.specs.Rules.{Rules}

-- what is wrong with the steps as a proof that the clauses have no model: a step isn't legal, or no empty clause ends them
abbrev pub IsFlaw : Clauses → List StepValue → Flaw → Type 0
IsFlaw clauses steps (BadStep number) = IsFirstBad clauses.clauses steps number
IsFlaw clauses steps NoEmptyClause = IsUnfinished clauses.clauses steps

-- the steps are a proof that the clauses have no model
abbrev pub AreProof : Clauses → List StepValue → Type 0
AreProof clauses steps = (p : Proof) × IsProved clauses.clauses steps p

-- ---- the single rows

-- the two options name one file; or the files are apart
abbrev pub apart_row : RecheckOptions → Row (Option Files) RecheckStop (Unit {0})
apart_row options = test_row (λ why. (why ≡ SamePath) × (options.cnf ≡ options.trace)) (options.cnf ≢ options.trace) tt

-- the file of clauses has an error; or it gives clauses
abbrev pub clauses_row : RecheckOptions → Row (Option Files) (FileError ℕ) Clauses
clauses_row options = file_row cnf_kind options.cnf MOST_PROOF_BYTES

-- the file of the proof has an error; or it gives steps
abbrev pub steps_row : RecheckOptions → Row (Option Files) (FileError ℕ) (List StepValue)
steps_row options = file_row trace_kind options.trace MOST_PROOF_BYTES

-- something is wrong with the steps; or they are a proof that the clauses have no model
abbrev pub proof_row : Clauses → List StepValue → Row (Option Files) Flaw Clauses
proof_row clauses steps = test_row (IsFlaw clauses steps) (AreProof clauses steps) clauses

-- ---- the rows in order, the last ones first

abbrev pub RecheckRows : Type 1
RecheckRows = Row (Option Files) RecheckStop Clauses

abbrev pub from_clauses : RecheckOptions → Clauses → RecheckRows
from_clauses options clauses = then_row (named_row InSteps (steps_row options)) (λ steps. named_row Flawed (proof_row clauses steps))

abbrev pub from_files : RecheckOptions → RecheckRows
from_files options = then_row (named_row InClauses (clauses_row options)) (from_clauses options)

-- all rows of the command
abbrev pub recheck_rows : RecheckOptions → RecheckRows
recheck_rows options = then_row (apart_row options) (λ _. from_files options)

-- ---- why it stops

-- what is printed of what is wrong with the proof
abbrev pub flaw_text : Flaw → List ℕ
flaw_text (BadStep number) = codes "badstep " ++ decimal number ++ codes "\n"
flaw_text NoEmptyClause = codes "noempty\n"

-- what is printed of a stop
abbrev pub recheck_text : RecheckOptions → RecheckStop → List ℕ
recheck_text options SamePath = codes "refused samepath " ++ options.trace ++ codes "\n"
recheck_text options (InClauses error) = line_error_text (codes "cnf") (codes "syntax") error
recheck_text options (InSteps error) = line_error_text (codes "trace") (codes "syntax") error
recheck_text options (Flawed flaw) = flaw_text flaw

-- the stop is an answer of no: the steps are no proof
abbrev pub is_flaw : RecheckStop → Bool
is_flaw SamePath = false
is_flaw (InClauses error) = false
is_flaw (InSteps error) = false
is_flaw (Flawed flaw) = true

-- the file, where the stop is that it is too long
abbrev pub long_proof : RecheckOptions → RecheckStop → Option Oversize
long_proof options SamePath = None
long_proof options (InClauses error) = oversize_of options.cnf MOST_PROOF_BYTES error
long_proof options (InSteps error) = oversize_of options.trace MOST_PROOF_BYTES error
long_proof options (Flawed flaw) = None

-- the stop with what is left open taken out: which line of the clauses is at fault
abbrev pub determined_recheck : RecheckStop → RecheckStop
determined_recheck SamePath = SamePath
determined_recheck (InClauses error) = InClauses (determined_file determined_line error)
determined_recheck (InSteps error) = InSteps (determined_file (λ own. own) error)
determined_recheck (Flawed flaw) = Flawed flaw

-- ---- its success

-- no file is written, the clauses have no model, and the text says so
pub record IsRefuted (clauses : Clauses) (writes : List Write) (printed : List ℕ) : Type 0 where
  pub none : writes ≡ []
  pub no_model : IsUnsatisfiable clauses.clauses
  pub text : printed ≡ codes "refuted\n"

-- the command, at these options; it asks no search
abbrev pub recheck_rules : RecheckOptions → Rules
recheck_rules options = record {
  Stop = RecheckStop;
  Value = Clauses;
  rows = recheck_rows options;
  Matter = Clauses;
  asking = recheck_rows options;
  gives_up = λ clauses stuck text. ⊥;
  too_long = long_proof options;
  is_no = is_flaw;
  says = recheck_text options;
  determine = determined_recheck;
  answers = IsRefuted;
}

-- ---- between its stages

-- the clauses have no model
abbrev pub AreRefuted : Unit {0} → Clauses → Type 0
AreRefuted done clauses = IsUnsatisfiable clauses.clauses

-- the steps are no proof, for what is wrong with them; or memory could not be had
abbrev pub IsFlawHalt : Clauses → List StepValue → Halt RecheckStop → Type 0
IsFlawHalt clauses steps (halt.For stop) = (flaw : Flaw) × (stop ≡ Flawed flaw) × IsFlaw clauses steps flaw
IsFlawHalt clauses steps (halt.Unread path) = ⊥
IsFlawHalt clauses steps halt.OutOfMemory = Unit {0}
